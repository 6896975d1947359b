-- `parity::sum_rows` meets its contract: the first rows, then those after them. Assumes nothing.
use Rattle.std.proofs.Common.{length, replicate}
use Rattle.parity.proofs.Turns.{after}
use Rattle.parity.proofs.sum_rows.Goals as goal

pub returns : goal.returns
returns c =
    let a = c.args in
    let first = c.sum_first-first in
    after a.media.now (replicate (length a.sum.now) 0) a.rows.now first.new.sum c.xor_rows.new.sum (length a.sum.now) (length first.new.sum) first.result first.auto.sum first.ensures.1 c.xor_rows.ensures
