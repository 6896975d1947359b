-- the rows from i on have moved
use Rattle.std.proofs.Common.{◌≤◌}
use Rattle.table.specs.Hold.{Shifted}
use Rattle.table.proofs.shift.Given as goal

abbrev pub invariant-loop-i : goal.invariant-loop-i
invariant-loop-i l = (l.r ≤ l.i) × Shifted l.i l.m l.initial.rows l.rows
