-- `order::in_order` meets its contract: the parts of the test are those of the definition. Assumes nothing.
use Rattle.std.proofs.Common.{length, refl}
use Rattle.order.proofs.Ways.{ordered}
use Rattle.order.proofs.in_order.Goals as goal

pub returns : goal.returns
returns c =
    let a = c.args in
    let found = c.rows_good-found in
    let counted = c.count_present-counted in
    ordered a.w a.lengths.now a.marks.now a.rows.now found.new.rows (length a.rows.now) refl found.result.good found.result.used counted.result.ones counted.result.good c.lengths_good.result found.ensures.0 found.ensures.1 counted.ensures.0 counted.ensures.1 c.lengths_good.ensures found.ensures.2 found.ensures.3
