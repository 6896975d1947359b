-- `schedule::line_of` meets its contract.
use Rattle.schedule.specs.Schedule.{shift}
use Rattle.schedule.proofs.line_of.Goals as goal

pub returns-in-Aligned : goal.returns-in-Aligned
unfolding shift
returns-in-Aligned c = rw c.in-Aligned.is

pub returns-in-Staggered : goal.returns-in-Staggered
unfolding shift
returns-in-Staggered c = rw c.in-Staggered.is
