-- `face::open` meets its contract. Assumes nothing.
use Rattle.std.proofs.Common.{ap}
use Rattle.face.specs.Reply.{replied}
use Rattle.face.proofs.open.Goals as goal

pub returns : goal.returns
returns c = (c.open-r.ensures.0, λ t e. rw c.by_number.ensures (ap replied (c.open-r.ensures.1 t e)))
