-- `window::waits` meets its contract. Assumes nothing.
use mathlib.Core.Path.{ap}
use lib.Dec.{leb}
use Rattle.window.specs.Limits.{least_missing}
use Rattle.window.proofs.waits.Goals as goal

pub returns : goal.returns
returns c = ap (leb least_missing) c.at_least.ensures
