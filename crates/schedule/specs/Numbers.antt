-- The numbers of the schedule as the code works them out: what they are, their sizes, and the ways through the code.
use Rattle.std.specs.Prelude.{ℕ, ◌*◌, ◌-◌, ◌≤◌, eqb, Some, None}
use Rattle.std.specs.Prelude as std
use Rattle.std.proofs.Math.Option.{Option, none, some}
use Rattle.schedule.specs.declared.Leaving.{Leaving}
use Rattle.schedule.specs.declared.Joining.{Joining}
use Rattle.schedule.specs.Schedule.{Arrangement, Cycle, start, column_due, taking, slot}

-- a profile small enough for the code: refusal 1 leaves no other
pub record Small (l d : ℕ) : Type 0 where
  pub columns : 1 ≤ l
  pub columns_most : l ≤ 20
  pub rows : 1 ≤ d
  pub rows_most : d ≤ 20
  pub matrix : l * d ≤ 100

-- what goes out at a counter: whether a column does, its slot, and how many packets back it starts
abbrev pub leaving_by : Arrangement → (l d at : ℕ) → Option Cycle → std.Option Leaving
leaving_by a l d at none = None
leaving_by a l d at (some c) = Some (record { slot = slot l c; back = at - start a l d c })

unfoldable pub leaving_at : Arrangement → (l d at : ℕ) → std.Option Leaving
leaving_at a l d at = leaving_by a l d at (column_due a l d at)

-- which column's sum takes the packet in at a counter, and whether as its first
unfoldable pub joining_at : Arrangement → (l d at : ℕ) → Joining
joining_at a l d at = record { slot = slot l (taking a l d at); first = eqb (start a l d (taking a l d at)) at }
