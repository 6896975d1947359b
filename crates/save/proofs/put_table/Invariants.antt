use Rattle.std.proofs.Common.{◌≡◌, ◌+◌, ◌*◌, ◌≤◌, length, drop}
use Rattle.std.proofs.Math.Seq.{sets}
use Rattle.capture.specs.Content.{table_end}
use Rattle.capture.specs.Calls.{lines}
use Rattle.save.proofs.put_table.Given as goal

abbrev pub invariant-loop-i : goal.invariant-loop-i
invariant-loop-i l = (length l.out ≡ length l.initial.out) × (l.next ≤ 4108 + 65535 * l.i) × (sets l.out (table_end l.i) (lines l.next (drop l.i l.ports) (drop l.i l.lengths)) ≡ sets l.initial.out 12 (lines (table_end (length l.ports)) l.ports l.lengths))
