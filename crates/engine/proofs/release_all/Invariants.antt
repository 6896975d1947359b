use mathlib.Core.Path.{◌≡◌}
use Prim.Native.Nat.{◌≤◌, ◌-◌}
use lib.ListN.{length}
use Rattle.engine.specs.Rows.{row_spent}
use Rattle.engine.proofs.Free.{desk}
use Rattle.engine.proofs.Turns.{Frees}
use Rattle.engine.proofs.release_all.Given as goal

abbrev pub invariant-loop-i : goal.invariant-loop-i
invariant-loop-i l = Frees row_spent l.initial.v (desk l.initial.v l.initial.parity l.initial.rows) l.i (desk l.v l.parity l.rows) × (length l.parity ≡ length l.initial.parity) × (length l.rows ≡ length l.initial.rows)
