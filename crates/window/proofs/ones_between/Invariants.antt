use mathlib.Core.Path.{◌≡◌}
use mathlib.Core.Bool.{◌&&◌}
use Prim.Native.Nat.{◌+◌, ◌-◌, ◌≤◌}
use Rattle.sequence.specs.Lists.{up_to, all, count}
use Rattle.window.specs.Order.{is_mark, is_present}
use Rattle.window.proofs.Turn.{good_mark}
use Rattle.window.proofs.ones_between.Given as goal

abbrev pub invariant-loop-i : goal.invariant-loop-i
invariant-loop-i l =
    (l.from ≤ l.i)
    × (l.i ≤ l.to)
    × (count (is_present l.marks) (up_to l.from) + l.ones ≡ count (is_present l.marks) (up_to l.i))
    × (l.from + l.ones ≤ l.i)
    × ((all (good_mark l.marks) (up_to l.from) && is_mark l.all) ≡ all (good_mark l.marks) (up_to l.i))
