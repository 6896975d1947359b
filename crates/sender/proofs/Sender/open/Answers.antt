-- `sender::Sender::open` meets its contract.
use Rattle.std.proofs.Common.{◌≡◌, rules, sym, ap, ◌∙◌}
use Rattle.answer.specs.First.{first-front, first-none}
use Rattle.answer.specs.Refused.{refusal_number, fault_of}
use Rattle.answer.proofs.Refused.{never_0, passes}
use Rattle.sender.specs.Sums.{lent}
use Rattle.sender.specs.Call.{no_sender, fresh, set_up_tests, open_tests}
use Rattle.sender.specs.Ready.{set_up_good, roomy_of}
use Rattle.sender.proofs.Ways.{open_stops, open_done}
use Rattle.sender.proofs.Sender.open.Goals as goal

pub returns-in-Err : goal.returns-in-Err
returns-in-Err c =
    let a = c.args in
    let z : c.default.result ≡ no_sender = search rules in
    let r = c.in-Err.refusal in
    rw (c.refused.ensures, z) (open_stops (fresh a.first a.arrangement a.l a.d a.p) (lent a.payloads.now a.timestamps.now a.lengths.now a.longest.now) (refusal_number r) (sym (ap fault_of c.in-Err.is) ∙ c.check_open.ensures) (never_0 r))

pub clear-requires : goal.clear-requires
clear-requires c =
    let a = c.args in
    let s = fresh a.first a.arrangement a.l a.d a.p in
    let e = sym c.check_open.ensures ∙ passes c.check_open.result c.in_default.not-Err in
    (set_up_good s (first-front (set_up_tests s) _ e), roomy_of s (lent a.payloads.now a.timestamps.now a.lengths.now a.longest.now) (first-none (open_tests s (lent a.payloads.now a.timestamps.now a.lengths.now a.longest.now)) (tt, (tt, (tt, tt))) e).1.1.0)

pub returns : goal.returns
returns c =
    let a = c.args in
    open_done (fresh a.first a.arrangement a.l a.d a.p) (lent a.payloads.now a.timestamps.now a.lengths.now a.longest.now) _ (sym c.check_open.ensures ∙ passes c.check_open.result c.in_default.not-Err) c.clear.ensures
