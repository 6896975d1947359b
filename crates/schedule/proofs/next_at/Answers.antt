-- `schedule::next_at` meets its contract.
use Rattle.std.proofs.Common.{◌+◌, ◌*◌, eq-eqb, ne_eqb}
use Rattle.schedule.specs.Schedule.{onward}
use Rattle.schedule.proofs.next_at.Goals as goal

pub returns-then-at-n : goal.returns-then-at-n
unfolding onward
returns-then-at-n c = rw (eq-eqb (c.args.at + 1) (3 * c.args.n) c.if-at-n.true)

pub returns-else-at-n : goal.returns-else-at-n
unfolding onward
returns-else-at-n c = rw (ne_eqb (c.args.at + 1) (3 * c.args.n) c.if-at-n.false)
