-- `xor::xor_into` meets its contract: after i turns the first i bytes are xored. Assumes nothing.
use Rattle.std.proofs.Common.{arith}
use Rattle.xor.proofs.Turn.{xor-more}
use Rattle.xor.proofs.xor_into.Goals as goal

pub loop-i-preserved : goal.loop-i-preserved
loop-i-preserved c = xor-more c.args.dst.now c.args.src.now c.loop-i.dst c.loop-i.i c.loop-i.invariant (omega arith) (omega arith)
