-- `sequence::member_at` meets its contract: the step is a product of two bytes, so it fits 16 bits.
use Rattle.std.proofs.Common.{ℕ, ◌*◌, ◌<◌, ◌≤◌, lt_of_le_of_lt, mul-le-mul, arith, lit<}
use Rattle.sequence.proofs.member_at.Goals as goal

bytes : (a b : ℕ) → a ≤ 255 → b ≤ 255 → a * b < 65536
bytes a b ha hb = lt_of_le_of_lt (mul-le-mul ha hb) (lit< tt)

pub overflow_mul-j : goal.overflow_mul-j
overflow_mul-j c = record { fits = bytes _ _ (omega arith) (omega arith) }
