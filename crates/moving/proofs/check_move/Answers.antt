-- `moving::check_move` meets its contract: each return is a way through `move_tests`. Assumes nothing.
use Rattle.std.proofs.Common.{sym, ltb, ltb-false}
use Rattle.std.proofs.lemmas.Result.{err_from_is_err_and}
use Rattle.answer.specs.Refused.{fault_of, refusal_number}
use Rattle.answer.proofs.Refused.{never_0}
use Rattle.window.specs.Bounds.{set_up_good}
use Rattle.sequence.proofs.Lists.{or_split}
use Rattle.moving.proofs.Tests.{set_up-stops, move-stops, standing-says}
use Rattle.moving.proofs.check_move.Goals as goal

pub returns-in_err-check_set_up : goal.returns-in_err-check_set_up
returns-in_err-check_set_up c =
    let a = c.args in
    let p = err_from_is_err_and c.from_residual.result c.from_residual.ensures.1 in
    let r = c.in_err-check_set_up.field-0.0 in
    rw (p.1, p.2) (set_up-stops a.w a.by a.z a.room a.count a.lengths.now a.marks.now a.rows.now (refusal_number r) c.in_err-check_set_up.ensures (never_0 r))

pub returns-then-by-w : goal.returns-then-by-w
returns-then-by-w c = let a = c.args in move-stops a.w a.by a.z a.room a.count a.lengths.now a.marks.now a.rows.now (sym c.in_ok-check_set_up.ensures) c.if-by-w.true

pub short_outputs-short-requires : goal.short_outputs-short-requires
short_outputs-short-requires c = let a = c.args in (set_up_good a.w (sym c.in_ok-check_set_up.ensures), ltb-false a.w.n a.by (or_split (ltb a.by 1) (ltb a.w.n a.by) c.if-by-w.false).1)

pub returns : goal.returns
returns c = let a = c.args in standing-says a.w a.by a.z a.room a.count a.lengths.now a.marks.now a.rows.now (sym c.in_ok-check_set_up.ensures) c.if-by-w.false c.short_outputs-short.result c.short_outputs-short.ensures _ (fault_of c.check_standing.result) c.check_standing.ensures
