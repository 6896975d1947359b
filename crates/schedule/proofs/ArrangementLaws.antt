-- The two sending arrangements, by the positions at which their groups start (01, "Bytes on the wire"). L columns and D rows are a matrix.
use Rattle.std.specs.Prelude.{ℕ, ◌+◌, ◌*◌, ◌%◌, ◌<◌, ◌≤◌}
use Rattle.std.proofs.Common.{mod-lt, mul-le-mul_left, mul-suc, arith}
use Rattle.schedule.specs.Arrangement.{staggered_column}

-- every staggered column starts in every matrix, and so once in it
pub staggered-within : (l d m r : ℕ) → r < l → 0 < d → (m * (l * d) ≤ staggered_column l d m r) × (staggered_column l d m r < m * (l * d) + l * d)
staggered-within l d m r h z = let e : l * (r % d) + l ≤ l * d = rw mul-suc at (mul-le-mul_left l (mod-lt r z)) in (omega arith, omega arith)
