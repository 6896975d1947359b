-- `moving::down_bytes` meets its contract, likewise. Assumes nothing.
use Rattle.moving.proofs.Blocks.{filled}
use Rattle.moving.proofs.down_bytes.Goals as goal

pub returns : goal.returns
returns c = let a = c.args in filled a.m a.n a.part.now c.slide_bytes.new.part c.fill.new.self 0 c.requires.0 c.requires.1 c.slide_bytes.ensures (c.fill.ensures.after (λ y e. e))
