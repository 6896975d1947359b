-- `order::repeats` meets its contract: after j turns the flag says whether one of the first j rows is in use and names the group. Assumes nothing.
use mathlib.Core.Path.{◌≡◌, refl, sym, ap, ◌∙◌}
use mathlib.Core.Bool.{◌||◌}
use Rattle.window.proofs.Turn.{turn-any}
use Rattle.window.specs.declared.Record.{Record}
use Rattle.window.specs.Order.{used, same_group}
use Rattle.order.specs.Rows.{names}
use mathlib.Core.Bool.{◌&&◌}
use native.Mathlib.Omega.{arith}
use Rattle.order.proofs.repeats.Goals as goal

pub returns-then-fresh : goal.returns-then-fresh
returns-then-fresh c =
    let the-pre = c.requires in
    let the-if1 = c.if-fresh in
    sym (the-pre.1 the-if1.true)

pub loop-j-init : goal.loop-j-init
loop-j-init c = (omega arith, refl)

pub loop-j-preserved : goal.loop-j-preserved
loop-j-preserved c =
    let the-loop = c.loop-j in
    let the-args = c.args in
    (omega arith, turn-any (names the-args.rows.now the-args.v) the-loop.j the-loop.found the-loop.invariant.1)

pub returns : goal.returns
returns c =
    let the-loop = c.loop-j in
    let the-args = c.args in
    let e : the-loop.j ≡ the-args.i = omega arith in the-loop.invariant.1 ∙ rw e
