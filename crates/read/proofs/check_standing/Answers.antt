-- `read::check_standing` meets its contract: the sizes are those of the store that was lent. Assumes nothing.
use Rattle.std.proofs.Common.{refl, ap, ◌∙◌}
use Rattle.window.specs.declared.Sizes.{Sizes}
use Rattle.read.proofs.Ways.{short-is}
use Rattle.read.proofs.check_standing.Goals as goal
