use mathlib.Core.Path.{◌≡◌}
use Prim.Native.Nat.{◌-◌, ◌≤◌}
use Rattle.sequence.specs.Lists.{up_to, any}
use Rattle.order.specs.Rows.{names}
use Rattle.order.proofs.repeats.Given as goal

abbrev pub invariant-loop-j : goal.invariant-loop-j
invariant-loop-j l = (l.j ≤ l.i) × (l.found ≡ any (names l.rows l.v) (up_to l.j))
