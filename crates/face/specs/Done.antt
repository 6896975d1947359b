-- What the work between gathering a hand of the table and putting it back says of every table that the hand was gathered of.
use Rattle.std.specs.Prelude.{◌≡◌, List, ℕ, min, ◌≤◌, length, take}
use Rattle.window.specs.declared.Record.{Record}
use Rattle.window.specs.Limits.{most_records}
use Rattle.window.specs.Store.{Store, stored, viewed}
use Rattle.calls.specs.Move.{Moved, outcome_of}
use Rattle.window.specs.declared.StoreView.{StoreView}
use Rattle.table.specs.declared.Row.{Row}
use Rattle.table.specs.View.{scatter}
use Rattle.table.specs.Apart.{Within}
use Rattle.table.specs.Gather.{gathered}
use Rattle.face.specs.declared.Reply.{Reply}
use Rattle.face.specs.declared.Finished.{Finished}
use Rattle.face.specs.Reply.{Replied, Filled, replied}

-- how many records are looked through: K, and no more than there are, nor than a window may have
abbrev pub reached : (len k : ℕ) → ℕ
reached len k = min most_records (min len k)

-- the first m of some rows were gathered of a table of len records
pub record Lent (len k m : ℕ) (rows : List Row) (t : List Record) : Type 0 where
  pub sized : length t ≡ len
  pub enough : m ≤ length rows
  pub these : take m rows ≡ gathered (reached len k) t

-- an offer: the rows that go back lie within the table, and with them the table is what the call says
pub record Done (call : Store → Replied) (len k m : ℕ) (media timestamps lengths marks parity : List ℕ) (rows : List Row) (media' timestamps' lengths' marks' parity' : List ℕ) (rows' : List Row) (r : Finished) : Type 0 where
  pub few : (t : List Record) → Lent len k m rows t → r.rows ≤ length rows'
  pub within : (t : List Record) → Lent len k m rows t → Within len (take r.rows rows')
  pub is : (t : List Record) → Lent len k m rows t
      → record { reply = r.reply; store = stored media' timestamps' lengths' marks' parity' (scatter (take r.rows rows') t) } ≡ call (stored media timestamps lengths marks parity t)

-- reading out or writing parity
pub record Given (call : Store → List ℕ → Filled) (len k m : ℕ) (store : StoreView) (rows : List Row) (out out' : List ℕ) (r : Reply) : Type 0 where
  pub is : (t : List Record) → Lent len k m rows t → record { reply = r; out = out' } ≡ call (viewed store t) out

-- a move: what an offer says, and what the two outputs have then
pub record Carries (call : Store → Moved) (len k m : ℕ) (media timestamps lengths marks parity : List ℕ) (rows : List Row) (media' timestamps' lengths' marks' parity' : List ℕ) (rows' : List Row) (out' sizes' : List ℕ) (r : Finished) : Type 0 where
  pub done : Done (λ s. replied (outcome_of (call s))) len k m media timestamps lengths marks parity rows media' timestamps' lengths' marks' parity' rows' r
  pub out : (t : List Record) → Lent len k m rows t → out' ≡ (call (stored media timestamps lengths marks parity t)).out
  pub sizes : (t : List Record) → Lent len k m rows t → sizes' ≡ (call (stored media timestamps lengths marks parity t)).sizes
