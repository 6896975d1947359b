-- `table::any_taken` meets its contract. Assumes nothing.
use Rattle.table.proofs.Rows.{no_bits}
use Rattle.table.proofs.any_taken.Goals as goal

pub returns : goal.returns
returns c = let x = c.args in no_bits x.a.in_use x.b.in_use x.c.in_use x.d.in_use
