-- `table::free_front` meets its contract: four free records more, and still none is gathered.
use Rattle.std.proofs.Common.{refl, arith}
use Rattle.table.proofs.Rows.{none-gathered, four_more}
use Rattle.table.proofs.free_front.Goals as goal

pub loop-i-init : goal.loop-i-init
loop-i-init c = (omega arith, refl, none-gathered c.args.table.now)

pub loop-i-preserved : goal.loop-i-preserved
loop-i-preserved c =
    let e = c.any_taken.ensures c.if-any_taken.false in
    (omega arith, omega arith, four_more c.args.table.now c.loop-i.i c.loop-i.invariant.2 e.0 e.1 e.2 e.3)
