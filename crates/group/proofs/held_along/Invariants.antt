use Rattle.std.proofs.Common.{◌≡◌, ◌≤◌, length, take}
use Rattle.sequence.specs.Wrap.{member}
use Rattle.window.specs.Limits.{width, most_side}
use Rattle.window.specs.Group.{present}
use Rattle.group.specs.Along.{along}
use Rattle.group.proofs.held_along.Given as goal

abbrev pub invariant-loop : goal.invariant-loop
invariant-loop l = (l.n ≤ l.counter) × (length l.rows ≡ most_side) × (l.number ≡ member width l.snbase l.offset l.counter) × (take l.n l.rows ≡ present l.marks (along l.base l.snbase l.offset l.counter))
