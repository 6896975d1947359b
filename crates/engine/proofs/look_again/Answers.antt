-- `engine::look_again` meets its contract: after j turns the first j rows are right again. Assumes nothing.
use Rattle.std.proofs.Common.{refl, arith}
use Rattle.engine.proofs.Again.{again_none, again_more, again_all, alike-inside}
use Rattle.engine.proofs.look_again.Goals as goal

pub loop-j-init : goal.loop-j-init
loop-j-init c = let a = c.args in (again_none a.w a.i a.marks.now a.rows.now, refl)

pub look_again_at-requires : goal.look_again_at-requires
look_again_at-requires c =
    let l = c.loop-j in
    (c.requires.0, c.requires.1, omega (arith, l.invariant.1), alike-inside c.args.w c.args.rows.now l.rows l.invariant.0.alike c.requires.2)

pub loop-j-preserved : goal.loop-j-preserved
loop-j-preserved c =
    let a = c.args in
    let l = c.loop-j in
    (again_more a.w a.i a.marks.now l.j a.rows.now l.rows _ l.invariant.0 c.look_again_at.ensures, omega (arith, c.look_again_at.auto, l.invariant.1))

pub returns : goal.returns
returns c =
    let a = c.args in
    again_all a.w a.i a.marks.now c.loop-j.j a.rows.now _ (omega arith) c.loop-j.invariant.0
