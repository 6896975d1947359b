-- Refusals 1 to 5 over a hand: what they say of every table that the hand is apart from, and what is known behind them.
use Rattle.std.specs.Prelude.{◌≡◌, Bool, false, List, ℕ, ◌*◌, ◌<◌, ◌≤◌, length, get_or}
use Rattle.answer.specs.First.{first}
use Rattle.window.specs.declared.Record.{Record}
use Rattle.window.specs.declared.Sizes.{Sizes}
use Rattle.window.specs.declared.Window.{Window}
use Rattle.window.specs.Limits.{most_records}
use Rattle.window.specs.Store.{stored, sizes_of}
use Rattle.window.specs.Bounds.{SetUp}
use Rattle.window.specs.Group.{is_missing}
use Rattle.calls.specs.Standing.{standing_by}
use Rattle.table.specs.declared.Row.{Row}
use Rattle.table.specs.View.{scatter}
use Rattle.table.specs.Apart.{Apart, Alike}
use Rattle.table.specs.Hold.{gap_from}
use Rattle.table.specs.Sound.{Sound}

-- a hand is apart from the first k records of a table, where the table has as many and no more are permitted
pub record Taken (t : List Record) (k : ℕ) (hs : List Row) : Type 0 where
  pub apart : k ≤ length t → k ≤ most_records → Apart t k 0 hs

-- as much of each part of the store as the window needs
pub record Long (w : Window) (z : Sizes) : Type 0 where
  pub media-long : w.n * w.p ≤ z.media
  pub timestamps-long : w.n ≤ z.timestamps
  pub lengths-long : w.n ≤ z.lengths
  pub marks-long : w.n ≤ z.marks
  pub parity-long : w.k * w.p ≤ z.parity
  pub records-long : w.k ≤ z.records

-- where none of refusals 1 to 5 applies
pub record Stands (w : Window) (z : Sizes) (short : Bool) (lengths marks : List ℕ) (hs : List Row) : Type 0 where
  pub set_up : SetUp w
  pub long : Long w z
  pub fits : short ≡ false
  pub sound : Sound w marks hs
  pub lengths-low : (i : ℕ) → i < w.n → is_missing marks i ≡ false → get_or lengths i 0 ≤ w.p
  pub few-present : w.present ≤ w.n
  pub few-used : w.in_use ≤ length hs
  pub free-low : w.in_use < w.k → gap_from 0 hs < w.k

-- the first of refusals 1 to 5 that applies, or 0, and what it leaves of the hand: notes and nothing else
pub record Stood (w : Window) (z : Sizes) (short : Bool) (lengths marks : List ℕ) (hs hs' : List Row) (fault : ℕ) : Type 0 where
  pub alike : Alike hs' hs
  pub is : (media timestamps parity : List ℕ) (t : List Record) → z ≡ sizes_of (stored media timestamps lengths marks parity (scatter hs t)) → Taken t w.k hs
      → fault ≡ first (standing_by w (stored media timestamps lengths marks parity (scatter hs t)) short)
  pub none : fault ≡ 0 → Stands w z short lengths marks hs'
