-- `schedule::start_of` meets its contract.
use Rattle.std.proofs.Common.{arith}
use Rattle.schedule.proofs.Numbers.{line_small, cycles_small}
use Rattle.schedule.specs.Schedule.{start}
use Rattle.schedule.proofs.start_of.Goals as goal

pub overflow_mul-result : goal.overflow_mul-result
overflow_mul-result c = rw c.line_of.ensures (omega (arith, line_small c.args.l c.args.d c.requires.small c.args.a c.args.column))

pub overflow_add-result : goal.overflow_add-result
overflow_add-result c = rw c.line_of.ensures (omega (arith, line_small c.args.l c.args.d c.requires.small c.args.a c.args.column))

pub overflow_mul-result-3 : goal.overflow_mul-result-3
overflow_mul-result-3 c = omega (arith, cycles_small c.args.l c.args.d c.requires.small c.args.cycle (omega arith))

pub overflow_add-result-2 : goal.overflow_add-result-2
overflow_add-result-2 c = rw c.line_of.ensures (omega (arith, line_small c.args.l c.args.d c.requires.small c.args.a c.args.column, cycles_small c.args.l c.args.d c.requires.small c.args.cycle (omega arith)))

pub returns : goal.returns
unfolding start
returns c = rw c.line_of.ensures
