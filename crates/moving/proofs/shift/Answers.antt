-- `moving::shift` meets its contract. Assumes nothing.
use Prim.Native.Nat.{◌*◌, ◌≤◌}
use native.Mathlib.Nat.{mul-le-mul_right}
use Rattle.window.specs.Store.{stored}
use native.Mathlib.Omega.{arith}
use Rattle.moving.proofs.shift.Goals as goal

pub overflow_mul-by : goal.overflow_mul-by
overflow_mul-by c = let a = c.args in let m : a.by * a.w.p ≤ a.w.n * a.w.p = mul-le-mul_right a.w.p c.requires.0 in omega (arith, m, c.requires.1, c.well_formed)

pub overflow_mul-n : goal.overflow_mul-n
overflow_mul-n c = let a = c.args in omega (arith, c.requires.1, c.well_formed)

pub down_bytes-requires : goal.down_bytes-requires
down_bytes-requires c = let a = c.args in (mul-le-mul_right a.w.p c.requires.0, c.requires.1)

pub returns : goal.returns
returns c = λ parity t i. stored (c.down_bytes.ensures i) (c.down.ensures i) (c.down-2.ensures i) (c.down_bytes-2.ensures i) parity t
