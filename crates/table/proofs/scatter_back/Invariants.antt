-- the rows from i on are back
use Rattle.std.proofs.Common.{◌≡◌}
use Rattle.table.proofs.Rows.{back}
use Rattle.table.proofs.scatter_back.Given as goal

abbrev pub invariant-loop-i : goal.invariant-loop-i
invariant-loop-i l = l.table ≡ back l.rows l.i l.initial.table
