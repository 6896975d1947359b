-- `moving::down` meets its contract: the elements in front have moved down, and zeros go behind them. Assumes nothing.
use Rattle.moving.proofs.Blocks.{filled}
use Rattle.moving.proofs.down.Goals as goal

pub returns : goal.returns
returns g c = let a = c.args in filled a.m a.n a.part.now c.slide.new.part c.fill.new.self a.zero c.requires.0 c.requires.1 c.slide.ensures (c.fill.ensures.after c.requires.3)
