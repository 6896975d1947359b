use mathlib.Core.Path.{◌≡◌}
use Prim.Native.Nat.{◌≤◌, ◌-◌}
use lib.ListN.{length}
use Rattle.engine.proofs.Again.{AgainTo}
use Rattle.engine.proofs.look_again.Given as goal

abbrev pub invariant-loop-j : goal.invariant-loop-j
invariant-loop-j l = AgainTo l.w l.i l.marks l.j l.initial.rows l.rows × (length l.rows ≡ length l.initial.rows)
