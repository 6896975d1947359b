-- The schedule is exact: what is due with a packet goes out with it, once, and nothing else; and where a packet belongs.
use Rattle.std.specs.Prelude.{◌≡◌, ℕ, ◌+◌, ◌*◌, ◌<◌}
use Rattle.schedule.specs.Schedule.{Arrangement, Cycle, start, due}

-- a cycle is due with packet i
pub record Due (a : Arrangement) (L D i : ℕ) (c : Cycle) : Type 0 where
  pub inside : c.column < L
  pub at : due a L D c ≡ i

-- packet i is a member of a cycle
pub record Member (a : Arrangement) (L D i : ℕ) (c : Cycle) : Type 0 where
  pub inside : c.column < L
  pub index : ℕ
  pub small : index < D
  pub is : start a L D c + index * L ≡ i

-- a cycle of its two numbers
abbrev pub cyc : (column cycle : ℕ) → Cycle
cyc k m = record { column = k; cycle = m }
