-- `open::open` meets its contract: each return is a way through `opened`. Assumes nothing.
use Rattle.std.proofs.Common.{◌≡◌, ◌++◌, [], ◌∷◌, ℕ, sym, ap, ◌∙◌, arith}
use Rattle.answer.specs.First.{first}
use Rattle.answer.specs.Refused.{fault_of, refusal_number}
use Rattle.answer.proofs.Refused.{never_0, passes}
use Rattle.window.specs.declared.Sizes.{Sizes}
use Rattle.window.specs.Limits.{set_up_tests}
use Rattle.window.specs.Store.{short_sizes}
use Rattle.calls.specs.Call.{asked}
use Rattle.open.proofs.Ways.{open_stops, open_long, open_done}
use Rattle.open.proofs.open.Goals as goal

pub returns-in-Err : goal.returns-in-Err
returns-in-Err c =
    let a = c.args in
    let w = c.fresh-w in
    let v = asked a.base a.ssrc a.l a.d a.p a.n a.k in
    let r = c.in-Err.refusal in
    let e = sym (ap fault_of c.in-Err.is) ∙ c.check_open.ensures ∙ ap (λ (z : Sizes). first (set_up_tests w.result ++ ((4, short_sizes w.result z) ∷ []))) c.of-z.ensures in
    rw c.refused.ensures
    (omega arith, open_stops w.result v w.ensures a.media.now a.timestamps.now a.lengths.now a.marks.now a.parity.now a.len (refusal_number r) e (never_0 r))

pub clear-requires : goal.clear-requires
clear-requires c =
    let a = c.args in
    let w = c.fresh-w in
    let v = asked a.base a.ssrc a.l a.d a.p a.n a.k in
    let e = c.check_open.ensures ∙ ap (λ (z : Sizes). first (set_up_tests w.result ++ ((4, short_sizes w.result z) ∷ []))) c.of-z.ensures in
    let l = open_long w.result v w.ensures a.media.now a.timestamps.now a.lengths.now a.marks.now a.parity.now a.len _ e (passes c.check_open.result c.in_default.not-Err) in
    (l.0, l.1, l.2, l.3, l.4)

pub returns : goal.returns
returns c =
    let a = c.args in
    let w = c.fresh-w in
    let v = asked a.base a.ssrc a.l a.d a.p a.n a.k in
    let e = c.check_open.ensures ∙ ap (λ (z : Sizes). first (set_up_tests w.result ++ ((4, short_sizes w.result z) ∷ []))) c.of-z.ensures in
    let z = passes c.check_open.result c.in_default.not-Err in
    let l = open_long w.result v w.ensures a.media.now a.timestamps.now a.lengths.now a.marks.now a.parity.now a.len _ e z in
    (l.5, λ t h. open_done w.result v w.ensures a.media.now a.timestamps.now a.lengths.now a.marks.now a.parity.now a.len _ e z t h _ (c.clear.ensures t))
