-- `schedule::slot_of` meets its contract.
use Rattle.std.proofs.Common.{arith, refl}
use Rattle.schedule.specs.Schedule.{slot}
use Rattle.schedule.proofs.Numbers.{slot-fits}
use Rattle.schedule.proofs.slot_of.Goals as goal

pub overflow_mul-result : goal.overflow_mul-result
overflow_mul-result c = omega (arith, slot-fits c.args.l c.args.cycle c.requires.0)

pub overflow_add-result : goal.overflow_add-result
overflow_add-result c = omega (arith, slot-fits c.args.l c.args.cycle c.requires.0)

pub returns : goal.returns
unfolding slot
returns c = refl
