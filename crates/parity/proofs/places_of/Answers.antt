-- `parity::places_of` meets its contract: one place more each turn. Assumes nothing.
use Rattle.std.proofs.Common.{arith}
use Rattle.parity.proofs.Turns.{place-more}
use Rattle.parity.proofs.places_of.Goals as goal

pub loop-i-preserved : goal.loop-i-preserved
loop-i-preserved g c = rw c.loop-i.invariant (place-more c.args.p c.args.rows.now g.row.N c.loop-i.i (omega arith) (omega arith))
