-- The schedule repeats every two matrices, so that a counter which falls back by two does for the number of packets taken.
use Rattle.std.specs.Prelude.{◌≡◌, ℕ, ◌+◌, ◌*◌, ◌<◌}
use Rattle.schedule.specs.Schedule.{Cycle, matrices}

-- ---- the schedule repeats: t double matrices later everything is the same, t * 2 cycles on
abbrev pub later : ℕ → Cycle → Cycle
later t c = record { column = c.column; cycle = c.cycle + t * 2 }

-- ---- the counter does for the number of packets taken
-- counter p does for packet i, where N is the size of a matrix
pub record Place (N p i : ℕ) : Type 0 where
  pub turns : ℕ
  pub is : i ≡ p + turns * (2 * N)
  pub first : p < N → turns ≡ 0
  pub bounded : p < matrices * N
