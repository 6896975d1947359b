use mathlib.Core.Path.{◌≡◌}
use Prim.Native.Nat.{◌-◌, ◌≤◌}
use lib.ListN.{length}
use Rattle.order.proofs.Turns.{Turned}
use Rattle.order.proofs.Seen.{Seen}
use Rattle.order.proofs.rows_good.Given as goal

abbrev pub invariant-loop-i : goal.invariant-loop-i
invariant-loop-i l = Turned l.w l.marks l.initial.rows l.rows l.good l.used l.i × (length l.rows ≡ length l.initial.rows) × (length l.seen ≡ 512) × Seen l.initial.rows l.seen l.i
