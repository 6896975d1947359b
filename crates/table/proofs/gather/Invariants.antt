-- the records in use passed are gathered
use Rattle.std.proofs.Common.{◌≡◌, ◌≤◌, length, take}
use Rattle.table.specs.Gather.{gathered}
use Rattle.table.proofs.gather.Given as goal

abbrev pub invariant-loop-i : goal.invariant-loop-i
invariant-loop-i l = (l.n ≤ length l.rows) × (take l.n l.rows ≡ gathered l.i l.table)
