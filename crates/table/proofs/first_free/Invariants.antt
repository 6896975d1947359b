-- the rows passed are in use, each with its number as slot
use Rattle.table.specs.Hold.{Passed}
use Rattle.table.proofs.first_free.Given as goal

abbrev pub invariant-loop-i : goal.invariant-loop-i
invariant-loop-i l = Passed l.rows l.i
