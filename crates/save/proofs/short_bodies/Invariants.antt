use Rattle.std.proofs.Common.{◌≡◌, take}
use Rattle.sequence.specs.Lists.{all}
use Rattle.capture.specs.Calls.{short_body}
use Rattle.save.proofs.short_bodies.Given as goal

abbrev pub invariant-loop-size : goal.invariant-loop-size
invariant-loop-size l = l.is ≡ all short_body (take l.size-index l.lengths)
