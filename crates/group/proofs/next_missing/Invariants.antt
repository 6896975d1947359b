use Rattle.std.proofs.Common.{◌≡◌}
use Rattle.sequence.specs.Wrap.{member}
use Rattle.window.specs.Limits.{width}
use Rattle.group.specs.Along.{Passed}
use Rattle.group.proofs.next_missing.Given as goal

abbrev pub invariant-loop-j : goal.invariant-loop-j
invariant-loop-j l = (l.number ≡ member width l.snbase l.offset l.j) × Passed l.marks l.base l.snbase l.offset l.na l.from l.j
