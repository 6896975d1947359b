-- `schedule::turn_of` meets its contract.
use Rattle.schedule.specs.Schedule.{turn}
use Rattle.schedule.proofs.Numbers.{matrix-some}
use Rattle.schedule.proofs.turn_of.Goals as goal

pub nonzero_rem-result : goal.nonzero_rem-result
nonzero_rem-result c = matrix-some c.args.l c.args.d c.requires

pub returns-in-Aligned : goal.returns-in-Aligned
unfolding turn
returns-in-Aligned c = rw c.in-Aligned.is

pub returns-in-Staggered : goal.returns-in-Staggered
unfolding turn
returns-in-Staggered c = rw c.in-Staggered.is
