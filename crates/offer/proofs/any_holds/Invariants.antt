use mathlib.Core.Path.{◌≡◌}
use Prim.Native.Nat.{◌≤◌, ◌-◌}
use Rattle.sequence.specs.Lists.{up_to, any}
use Rattle.offer.specs.Rows.{row_holds}
use Rattle.offer.proofs.any_holds.Given as goal

abbrev pub invariant-loop-i : goal.invariant-loop-i
invariant-loop-i l = l.found ≡ any (row_holds l.rows l.stream l.snbase) (up_to l.i)
