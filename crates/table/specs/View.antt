-- The hand: the records in use, each with its slot in the table and a note of what the last look at its group found.
use Rattle.std.specs.Prelude.{List, [], ◌∷◌, ℕ, get_or, set}
use Rattle.window.specs.declared.Record.{Record}
use Rattle.window.specs.Record.{blank}
pub use Rattle.table.specs.declared.Row.{Row}

-- the row that is read where there is none
abbrev pub nobody : Row
nobody = record { slot = 0; note = 0; it = blank }

-- the slot of row i
abbrev pub slot_at : List Row → ℕ → ℕ
slot_at hs i = (get_or hs i nobody).slot

-- the note of row i
abbrev pub note_at : List Row → ℕ → ℕ
note_at hs i = (get_or hs i nobody).note

-- the record of row i
abbrev pub it_at : List Row → ℕ → Record
it_at hs i = (get_or hs i nobody).it

-- row i has another record
abbrev pub put : List Row → ℕ → Record → List Row
put hs i v = set hs i (record { slot = slot_at hs i; note = note_at hs i; it = v })

-- row i has another note
abbrev pub put_note : List Row → ℕ → ℕ → List Row
put_note hs i n = set hs i (record { slot = slot_at hs i; note = n; it = it_at hs i })

-- the slots of a hand
unfoldable pub slots : List Row → List ℕ
slots [] = []
slots (h ∷ hs) = h.slot ∷ slots hs

-- the records of a hand
unfoldable pub its : List Row → List Record
its [] = []
its (h ∷ hs) = h.it ∷ its hs

-- the table with each record of the hand at its slot
unfoldable pub scatter : List Row → List Record → List Record
scatter [] t = t
scatter (h ∷ hs) t = set (scatter hs t) h.slot h.it
