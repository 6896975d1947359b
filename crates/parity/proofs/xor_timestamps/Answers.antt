-- `parity::xor_timestamps` meets its contract: after i turns the sum is that of the first i rows. Assumes nothing.
use Rattle.std.proofs.Common.{get_or, arith}
use Rattle.parity.proofs.Turns.{one-number}
use Rattle.parity.proofs.xor_timestamps.Goals as goal

pub loop-row-preserved : goal.loop-row-preserved
loop-row-preserved c = rw c.loop-row.invariant (one-number (λ k. get_or c.args.timestamps.now k 0) c.args.rows.now c.loop-row.row-index c.args.with (omega arith))
