-- `window::Window::count_present` meets its contract: the blocks passed are counted, and the flag says whether they are good. Assumes nothing.
use mathlib.Core.Path.{◌≡◌, refl, ap, ◌∙◌}
use mathlib.Core.Bool.{Bool, ◌&&◌}
use Rattle.window.specs.Order.{is_mark, is_present}
use Rattle.window.proofs.Turn.{few}
use native.Mathlib.Omega.{arith}
use Rattle.window.proofs.Window.count_present.Goals as goal

pub loop-at-init : goal.loop-at-init
loop-at-init c = (omega arith, refl, omega arith, refl)

pub ones_between-r-requires : goal.ones_between-r-requires
ones_between-r-requires c =
    let b = c.block_end-to in
    (omega (arith, b.ensures.0), omega (arith, b.ensures.1, c.requires), b.ensures.2)

pub overflow_add-ones : goal.overflow_add-ones
overflow_add-ones c =
    let b = c.block_end-to in
    omega (arith, c.ones_between-r.ensures.0, c.loop-at.invariant.1, few (is_present c.args.marks.now) b.result, b.ensures.1)

pub loop-at-smaller : goal.loop-at-smaller
loop-at-smaller c = omega (arith, c.block_end-to.ensures.0, c.block_end-to.ensures.1)

pub loop-at-preserved : goal.loop-at-preserved
loop-at-preserved c =
    let b = c.block_end-to in
    let r = c.ones_between-r in
    let l = c.loop-at in (
      b.ensures.1,
      omega (arith, r.ensures.0, l.invariant.1),
      omega (arith, r.ensures.0, l.invariant.1, few (is_present c.args.marks.now) b.result),
      ap (λ (t : Bool). t && is_mark r.result.all) l.invariant.3 ∙ r.ensures.1,
    )

pub returns : goal.returns
returns c =
    let l = c.loop-at in
    let e : l.at ≡ c.args.self.n = omega arith in
    (l.invariant.1 ∙ rw e, l.invariant.3 ∙ rw e)
