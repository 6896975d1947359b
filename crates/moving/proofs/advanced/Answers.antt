-- `moving::advanced` meets its contract. Assumes nothing.
use Rattle.moving.proofs.advanced.Goals as goal

pub returns : goal.returns
returns c = rw (c.next-base.ensures, c.saturating_sub-present.ensures)
