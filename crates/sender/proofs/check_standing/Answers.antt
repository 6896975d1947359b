-- `sender::check_standing` meets its contract.
use Rattle.std.proofs.Common.{sym, ◌∙◌, refl, length}
use Rattle.std.proofs.lemmas.Result.{err_from_is_err_and}
use Rattle.answer.specs.First.{first_hit, first_past, first-end}
use Rattle.answer.specs.Refused.{refusal_number}
use Rattle.answer.proofs.Refused.{never_0}
use Rattle.sender.specs.Call.{set_up_tests}
use Rattle.sender.specs.Ready.{set_up_good, longest-enough}
use Rattle.sender.proofs.Ways.{stops, goes}
use Rattle.sender.proofs.check_standing.Goals as goal

pub returns-in_err-check_set_up : goal.returns-in_err-check_set_up
returns-in_err-check_set_up c =
    let p = err_from_is_err_and c.from_residual.result c.from_residual.ensures.1 in
    let r = c.in_err-check_set_up.field-0.0 in
    rw (p.1, p.2) (stops (set_up_tests c.args.s) _ (refusal_number r) c.in_err-check_set_up.ensures (never_0 r))

pub is_short-requires : goal.is_short-requires
is_short-requires c = set_up_good c.args.s (sym c.in_ok-check_set_up.ensures)

pub returns-then-is_short : goal.returns-then-is_short
returns-then-is_short c = goes (set_up_tests c.args.s) _ _ c.in_ok-check_set_up.ensures (tt, (tt, tt)) refl _ (first_hit _ _ _ (sym c.is_short.ensures ∙ c.if-is_short.true))

pub is_astray-requires : goal.is_astray-requires
is_astray-requires c =
    let a = c.args in
    (set_up_good a.s (sym c.in_ok-check_set_up.ensures), longest-enough a.s (length a.sums.payloads.now) (length a.sums.timestamps.now) (length a.sums.lengths.now) (length a.sums.longest.now) a.row a.column (sym c.is_short.ensures ∙ c.if-is_short.false))

pub returns-then-is_astray : goal.returns-then-is_astray
returns-then-is_astray c =
    goes (set_up_tests c.args.s) _ _ c.in_ok-check_set_up.ensures (tt, (tt, tt)) refl _
    (first_past _ _ _ _ (sym c.is_short.ensures ∙ c.if-is_short.false) (first_hit _ _ _ (sym c.is_astray.ensures ∙ c.if-is_astray.true)))

pub returns : goal.returns
returns c =
    goes (set_up_tests c.args.s) _ _ c.in_ok-check_set_up.ensures (tt, (tt, tt)) refl _
    (first_past _ _ _ _ (sym c.is_short.ensures ∙ c.if-is_short.false) (first_past _ _ _ _ (sym c.is_astray.ensures ∙ c.if-is_astray.false) first-end))
