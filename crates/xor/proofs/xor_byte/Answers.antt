-- `xor::xor_byte` meets its contract: one place more each turn. Assumes nothing.
use Rattle.std.proofs.Common.{arith}
use Rattle.xor.proofs.Turn.{byte-more}
use Rattle.xor.proofs.xor_byte.Goals as goal

pub loop-k-preserved : goal.loop-k-preserved
loop-k-preserved g c =
    let l = c.loop-k in
    let a = c.args in
    rw l.invariant (byte-more a.src.now a.places l.k a.i a.byte (omega arith))
