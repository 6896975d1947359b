-- The products of a window's numbers fit a `usize`. Assumes nothing.
use Prim.Native.Nat.{ℕ, ◌*◌, ◌≤◌}
use native.Mathlib.Nat.{mul-le-mul, lt_of_le_of_lt}
use lib.Dec.{lit<}
use mir.Val.{Fits}
use mir.Syntax.{w64}

pub product_fits : (a b : ℕ) → a ≤ 400 → b ≤ 1428 → Fits w64 (a * b)
product_fits a b ha hb = record { fits = lt_of_le_of_lt (mul-le-mul ha hb) (lit< tt) }

pub product_le : (a b : ℕ) → a ≤ 20 → b ≤ 20 → a * b ≤ 400
product_le a b ha hb = mul-le-mul {n₂ = 20} {m₂ = 20} ha hb
