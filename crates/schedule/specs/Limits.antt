-- What the limits of a profile add (004, 4.5.3 and 4.5.6): numbers that a card can keep small, never more than two cycles of a column at a time,
-- and bounds on when a column goes out.
use Rattle.std.specs.Prelude.{ℕ, ◌≤◌, ◌<◌}
use Rattle.schedule.specs.Schedule.{Arrangement, Cycle, start, due}

-- a cycle's sum is needed from its first packet on until it goes out
pub record Alive (a : Arrangement) (L D i : ℕ) (c : Cycle) : Type 0 where
  pub inside : c.column < L
  pub begun : start a L D c ≤ i
  pub kept : i < due a L D c
