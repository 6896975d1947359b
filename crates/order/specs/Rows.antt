-- The test of order over the rows of a hand.
use Rattle.std.specs.Prelude.{◌≡◌, Bool, true, false, cond, not, ◌&&◌, List, ℕ, ◌%◌, ◌<◌, ◌≤◌, eqb, leb, ltb, length, get_or}
use Rattle.sequence.specs.Lists.{up_to, any}
use Rattle.rtp.specs.Length.{good_length}
use Rattle.window.specs.declared.Record.{Record}
use Rattle.window.specs.declared.Window.{Window}
use Rattle.window.specs.Limits.{least_missing}
use Rattle.window.specs.Store.{stored}
use Rattle.window.specs.Group.{group, is_missing, missing}
use Rattle.window.specs.Order.{used, same_group, shape_good, disorder}
use Rattle.table.specs.declared.Row.{Row}
use Rattle.table.specs.View.{slot_at, it_at, scatter}
use Rattle.table.specs.Apart.{Fits, Alike}
use Rattle.table.specs.Hold.{used_rows}
use Rattle.table.specs.Sound.{Sound}

-- row j is in use and names the group of a record
abbrev pub names : List Row → Record → ℕ → Bool
names hs v j = used (it_at hs j) && same_group (it_at hs j) v

-- how many of the group of a record are missing
abbrev pub missing_of : Window → (marks : List ℕ) → Record → ℕ
missing_of w marks v = length (missing marks (group w v.stream v.snbase))

-- what a row whose mark is not 0 has to be: in use, at a record of the window, of good shape and length, the first of its group, and waiting
abbrev pub used_good : Window → (marks : List ℕ) → List Row → ℕ → Bool
used_good w marks hs i =
    eqb (it_at hs i).in_use 1
    && (ltb (slot_at hs i) w.k
    && (shape_good w (it_at hs i).stream (it_at hs i).snbase
    && (good_length w.p (it_at hs i).payload_length && (not (any (names hs (it_at hs i)) (up_to i)) && leb least_missing (missing_of w marks (it_at hs i))))))

-- a row is free or good
abbrev pub row_good : Window → (marks : List ℕ) → List Row → ℕ → Bool
row_good w marks hs i = cond (eqb (it_at hs i).in_use 0) true (used_good w marks hs i)

-- the place of row i in the map of SNBases that were seen
abbrev pub seen_at : List Row → ℕ → ℕ
seen_at hs i = (it_at hs i).snbase % 512

-- what the test of order says, and leaves of the hand: notes and nothing else
pub record Ordered (w : Window) (lengths marks : List ℕ) (hs hs' : List Row) (good : Bool) : Type 0 where
  pub alike : Alike hs' hs
  pub is : (media timestamps parity : List ℕ) (t : List Record) → Fits t w.k hs → good ≡ not (disorder w (stored media timestamps lengths marks parity (scatter hs t)))
  pub sound : good ≡ true → Sound w marks hs'
  pub lengths-low : good ≡ true → (i : ℕ) → i < w.n → is_missing marks i ≡ false → get_or lengths i 0 ≤ w.p
  pub few-present : good ≡ true → w.present ≤ w.n
  pub few-used : good ≡ true → w.in_use ≤ length hs
  pub used-is : good ≡ true → w.in_use ≡ used_rows hs
