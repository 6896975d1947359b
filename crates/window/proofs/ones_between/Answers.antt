-- `window::ones_between` meets its contract: after each turn the sum is what the marks passed add to the count, and joined they are 0 or 1 where they are
-- good. Assumes nothing.
use mathlib.Core.Path.{◌≡◌, refl, sym, ap, ◌∙◌}
use mathlib.Core.Bool.{Bool, ◌&&◌, and_assoc, and-true}
use lib.ListN.{get_or}
use Rattle.sequence.specs.Lists.{up_to, all, count}
use Rattle.window.specs.Order.{is_mark, is_present}
use Rattle.window.proofs.Turn.{good_mark, flag-le, turn-all, turn-count, join-mark}
use native.Mathlib.Omega.{arith}
use Rattle.window.proofs.ones_between.Goals as goal

pub loop-i-init : goal.loop-i-init
loop-i-init c = (omega arith, omega (arith, c.requires.0), omega arith, omega arith, and-true (all (good_mark c.args.marks.now) (up_to c.args.from)))

pub overflow_cast-ones : goal.overflow_cast-ones
overflow_cast-ones c = tt

pub overflow_add-ones : goal.overflow_add-ones
overflow_add-ones c = omega (arith, flag-le (is_present c.args.marks.now c.loop-i.i), c.loop-i.invariant.3, c.requires.2)

pub loop-i-preserved : goal.loop-i-preserved
loop-i-preserved c =
    let marks = c.args.marks.now in
    let l = c.loop-i in
    let f = flag-le (is_present marks l.i) in
    let t = turn-count (is_present marks) l.i (count (is_present marks) (up_to l.i)) refl in
    let before = all (good_mark marks) (up_to c.args.from) in (
      omega arith,
      omega arith,
      omega (arith, t, l.invariant.2),
      omega (arith, f, l.invariant.3),
      ap (λ (t : Bool). before && t) (join-mark l.all (get_or marks l.i 0)) ∙ sym (and_assoc before (is_mark l.all) (good_mark marks l.i)) ∙ turn-all (good_mark marks) l.i (before && is_mark l.all) l.invariant.4,
    )

pub returns : goal.returns
returns c =
    let l = c.loop-i in
    let e : l.i ≡ c.args.to = omega arith in
    (l.invariant.2 ∙ rw e, l.invariant.4 ∙ rw e)
