-- `face::advance` meets its contract. Assumes nothing.
use Rattle.calls.specs.Move.{moved}
use Rattle.face.proofs.Ways.{carries}
use Rattle.face.proofs.advance.Goals as goal

pub returns : goal.returns
returns c = let a = c.args in carries (λ x. moved a.w a.by x a.out.now a.sizes.now) a.len a.w.k a.m a.media.now a.timestamps.now a.lengths.now a.marks.now a.parity.now a.rows.now c.requires _ _ _ _ _ _ _ _ c.advance.result c.advance.ensures c.finish.result c.finish.ensures.0 c.finish.ensures.1
