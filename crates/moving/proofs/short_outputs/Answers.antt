-- `moving::short_outputs` meets its contract. Assumes nothing.
use Prim.Native.Nat.{◌+◌, ◌*◌, ◌≤◌}
use native.Mathlib.Nat.{mul-le-mul}
use native.Mathlib.Omega.{arith}
use Rattle.moving.proofs.short_outputs.Goals as goal

pub overflow_add-result : goal.overflow_add-result
overflow_add-result c = omega (arith, c.requires.0.p-high)

pub overflow_mul-result : goal.overflow_mul-result
overflow_mul-result c =
    let a = c.args in
    let m : a.by * (12 + a.w.p) ≤ 400 * 1440 = mul-le-mul {n₁ = a.by} {n₂ = 400} {m₂ = 1440} (omega (arith, c.requires.1, c.requires.0.n-high)) (omega (arith, c.requires.0.p-high)) in
    omega arith
