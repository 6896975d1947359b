-- A call as a method over a hand: what it says of every table that the hand is laid over.
use Rattle.std.specs.Prelude.{◌≡◌, false, List, ℕ, ◌<◌, ◌≤◌, length, take}
use Rattle.window.specs.declared.Record.{Record}
use Rattle.window.specs.Limits.{most_records}
use Rattle.answer.specs.Refused.{answer_of}
use Rattle.window.specs.declared.StoreView.{StoreView}
use Rattle.window.specs.Store.{Store, stored, viewed}
use Rattle.calls.specs.Call.{Outcome, Written}
use Rattle.calls.specs.Move.{Moved, outcome_of}
use Rattle.table.specs.declared.Row.{Row}
use Rattle.table.specs.View.{scatter}
use Rattle.table.specs.Apart.{Within}
use Rattle.order.specs.Stands.{Taken}
use Rattle.receiver.specs.declared.Step.{Step}

-- the first m of some rows are a hand of a table of len records, and there is room for one more
pub record Laid (k len m : ℕ) (rows : List Row) (t : List Record) : Type 0 where
  pub sized : length t ≡ len
  pub few : m ≤ most_records
  pub room : m < length rows
  pub taken : Taken t k (take m rows)

-- the table with the first m of some rows scattered over it
abbrev pub table_of : (m : ℕ) (rows : List Row) → List Record → List Record
table_of m rows t = scatter (take m rows) t

-- an offer: of every table what the call says, and where nothing changed, the table as it was
pub record Stepped (call : Store → Outcome) (k len m : ℕ) (media timestamps lengths marks parity : List ℕ) (rows : List Row) (media' timestamps' lengths' marks' parity' : List ℕ) (rows' : List Row) (r : Step) : Type 0 where
  pub is : (t : List Record) → Laid k len m rows t
      → record { answer = answer_of r.answer; window = r.receiver.window; store = stored media' timestamps' lengths' marks' parity' (table_of r.rows rows' t) } ≡ call (stored media timestamps lengths marks parity (table_of m rows t))
  pub still : (t : List Record) → Laid k len m rows t → r.changed ≡ false → table_of r.rows rows' t ≡ table_of m rows t
  pub few : (t : List Record) → Laid k len m rows t → r.rows ≤ length rows'
  pub within : (t : List Record) → Laid k len m rows t → Within len (take m rows) → Within len (take r.rows rows')

-- reading out or writing parity: the answer and the output, and the window value as it was
pub record Wrote (call : Store → List ℕ → Written) (k len m : ℕ) (store : StoreView) (rows : List Row) (out out' : List ℕ) (r : Step) : Type 0 where
  pub is : (t : List Record) → Laid k len m rows t → record { answer = answer_of r.answer; window = r.receiver.window; out = out' } ≡ call (viewed store (table_of m rows t)) out

-- a move: what an offer says, and what the two outputs have then
pub record Advanced (call : Store → Moved) (k len m : ℕ) (media timestamps lengths marks parity : List ℕ) (rows : List Row) (media' timestamps' lengths' marks' parity' : List ℕ) (rows' : List Row) (out' sizes' : List ℕ) (r : Step) : Type 0 where
  pub stepped : Stepped (λ s. outcome_of (call s)) k len m media timestamps lengths marks parity rows media' timestamps' lengths' marks' parity' rows' r
  pub out : (t : List Record) → Laid k len m rows t → out' ≡ (call (stored media timestamps lengths marks parity (table_of m rows t))).out
  pub sizes : (t : List Record) → Laid k len m rows t → sizes' ≡ (call (stored media timestamps lengths marks parity (table_of m rows t))).sizes
