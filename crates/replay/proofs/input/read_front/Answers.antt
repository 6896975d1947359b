-- A header that was read has few entries.
use Rattle.std.proofs.Common.{arith}
use Rattle.replay.proofs.SetUp.{few}
use Rattle.replay.proofs.input.read_front.Goals as goal

pub overflow_mul-due : goal.overflow_mul-due
overflow_mul-due g c = omega (arith, few _ _ c.header_of-h.ensures)

pub overflow_add-due : goal.overflow_add-due
overflow_add-due g c = omega (arith, few _ _ c.header_of-h.ensures)

pub slice_bounds-fill-end-3 : goal.slice_bounds-fill-end-3
slice_bounds-fill-end-3 g c = omega (arith, few _ _ c.header_of-h.ensures)
