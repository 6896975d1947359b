-- `window::lacks` meets its contract. Assumes nothing.
use mathlib.Core.Path.{ap}
use lib.Dec.{ltb}
use Rattle.window.proofs.lacks.Goals as goal

pub returns : goal.returns
returns c = ap (ltb 0) c.at_least.ensures
