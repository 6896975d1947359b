-- `sender::check_open` meets its contract.
use Rattle.std.proofs.Common.{sym, ◌∙◌, refl}
use Rattle.std.proofs.lemmas.Result.{err_from_is_err_and}
use Rattle.answer.specs.First.{first_hit, first_past, first-end}
use Rattle.answer.specs.Refused.{refusal_number}
use Rattle.answer.proofs.Refused.{never_0}
use Rattle.sender.specs.Call.{set_up_tests}
use Rattle.sender.specs.Ready.{set_up_good}
use Rattle.sender.proofs.Ways.{stops, goes}
use Rattle.sender.proofs.check_open.Goals as goal

pub returns-in_err-check_set_up : goal.returns-in_err-check_set_up
returns-in_err-check_set_up c =
    let p = err_from_is_err_and c.from_residual.result c.from_residual.ensures.1 in
    let r = c.in_err-check_set_up.field-0.0 in
    rw (p.1, p.2) (stops (set_up_tests c.args.s) _ (refusal_number r) c.in_err-check_set_up.ensures (never_0 r))

pub short_room-requires : goal.short_room-requires
short_room-requires c = set_up_good c.args.s (sym c.in_ok-check_set_up.ensures)

pub returns-then-short_room : goal.returns-then-short_room
returns-then-short_room c = goes (set_up_tests c.args.s) _ _ c.in_ok-check_set_up.ensures (tt, (tt, tt)) refl _ (first_hit _ _ _ (sym c.short_room.ensures ∙ c.if-short_room.true))

pub returns : goal.returns
returns c = goes (set_up_tests c.args.s) _ _ c.in_ok-check_set_up.ensures (tt, (tt, tt)) refl _ (first_past _ _ _ _ (sym c.short_room.ensures ∙ c.if-short_room.false) first-end)
