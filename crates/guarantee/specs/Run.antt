-- A list of offers as a run of the theory that keeps the invariant of Fine.antt.
use Rattle.std.specs.Prelude.{ℕ, ◌≤◌, length}
use mathlib.Core.List.{List, Memᴰ}
use Rattle.window.specs.declared.Window.{Window}
use Rattle.window.specs.Limits.{parity_room}
use Rattle.window.specs.Store.{Store}
use Rattle.guarantee.specs.Order.{Ordered}
use Rattle.guarantee.specs.Fine.{Opened}
use Rattle.guarantee.specs.Demand3.{Offer, Stretch, Fills, Unaltered, distinct_groups}
use Rattle.guarantee.specs.Start.{Holds, counted, received_from}

-- ---- from any start
-- what is given, by the set-up numbers of a window value w and counts a and u
pub record Ready (w : Window) (a u : ℕ) (s : Store) (t : Stretch) (offers : List Offer) : Type 0 where
  pub within : Opened w
  pub fills : Fills w t
  pub ordered : Ordered w a u s
  pub holds : Holds w t s
  pub unaltered : (o : Offer) → Memᴰ o (counted w offers) → Unaltered w t o
  pub few_groups : length (distinct_groups (received_from w s offers)) ≤ parity_room w
