use Rattle.std.proofs.Common.{◌≡◌, length}
use Rattle.engine.proofs.Free.{desk}
use Rattle.engine.proofs.Turns.{Frees}
use Rattle.moving.specs.Rows.{row_behind}
use Rattle.moving.proofs.release_behind.Given as goal

abbrev pub invariant-loop-i : goal.invariant-loop-i
invariant-loop-i l = Frees (row_behind l.initial.v.base l.by) l.initial.v (desk l.initial.v l.initial.parity l.initial.rows) l.i (desk l.v l.parity l.rows) × (length l.parity ≡ length l.initial.parity) × (length l.rows ≡ length l.initial.rows)
