-- `schedule::due_of` meets its contract.
use Rattle.std.proofs.Common.{arith, ◌+◌}
use Rattle.schedule.specs.Schedule.{due}
use Rattle.schedule.proofs.Numbers.{cycles_small, column-small, lines-small, start_small}
use Rattle.schedule.proofs.due_of.Goals as goal

pub overflow_mul-result-in-Aligned : goal.overflow_mul-result-in-Aligned
overflow_mul-result-in-Aligned c = omega (arith, cycles_small c.args.l c.args.d c.requires.small (c.args.cycle + 1) (omega arith))

pub overflow_mul-result-in-Aligned-2 : goal.overflow_mul-result-in-Aligned-2
overflow_mul-result-in-Aligned-2 c = omega (arith, column-small c.args.l c.args.d c.requires.small c.args.column (omega arith))

pub overflow_add-result-in-Aligned : goal.overflow_add-result-in-Aligned
overflow_add-result-in-Aligned c = omega (arith, cycles_small c.args.l c.args.d c.requires.small (c.args.cycle + 1) (omega arith), column-small c.args.l c.args.d c.requires.small c.args.column (omega arith))

pub overflow_mul-result-in-Staggered : goal.overflow_mul-result-in-Staggered
overflow_mul-result-in-Staggered c = omega (arith, lines-small c.args.l c.args.d c.requires.small)

pub overflow_add-result-in-Staggered : goal.overflow_add-result-in-Staggered
overflow_add-result-in-Staggered c = omega (arith, c.start_of.ensures, lines-small c.args.l c.args.d c.requires.small, start_small c.args.l c.args.d c.requires.small c.args.a c.args.column c.args.cycle (omega arith) (omega arith))

pub overflow_add-result-in-Staggered-2 : goal.overflow_add-result-in-Staggered-2
overflow_add-result-in-Staggered-2 c = omega (arith, c.start_of.ensures, lines-small c.args.l c.args.d c.requires.small, start_small c.args.l c.args.d c.requires.small c.args.a c.args.column c.args.cycle (omega arith) (omega arith))

pub returns-in-Aligned : goal.returns-in-Aligned
unfolding due
returns-in-Aligned c = rw c.in-Aligned.is

pub returns-in-Staggered : goal.returns-in-Staggered
unfolding due
returns-in-Staggered c = rw (c.start_of.ensures, c.in-Staggered.is)
