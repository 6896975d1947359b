-- The two sending arrangements, by the positions at which their groups start (01, "Bytes on the wire"). L columns and D rows are a matrix.
use Rattle.std.specs.Prelude.{List, map, ℕ, ◌+◌, ◌*◌, ◌%◌}
use Rattle.sequence.specs.Lists.{up_to}

-- "aligned rows start at the multiples of L": row i
abbrev pub aligned_row : (l i : ℕ) → ℕ
aligned_row l i = i * l

-- "aligned columns at the first L positions of each matrix of L × D": column r, 0 ≤ r < L, of matrix m
abbrev pub aligned_column : (l d m r : ℕ) → ℕ
aligned_column l d m r = m * (l * d) + r

-- "the staggered column for r, 0 ≤ r < L, starts first at r + L × (r mod D) and again every L × D": in matrix m
abbrev pub staggered_column : (l d m r : ℕ) → ℕ
staggered_column l d m r = m * (l * d) + (r + l * (r % d))

-- where the D aligned rows of matrix m start
abbrev pub aligned_rows : (l d m : ℕ) → List ℕ
aligned_rows l d m = map (λ i. aligned_row l (m * d + i)) (up_to d)

-- where its L aligned columns start
abbrev pub aligned_columns : (l d m : ℕ) → List ℕ
aligned_columns l d m = map (aligned_column l d m) (up_to l)
