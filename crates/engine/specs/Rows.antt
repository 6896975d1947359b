-- What the engine does to the rows of a hand.
use Rattle.std.specs.Prelude.{◌≡◌, Option, Some, None, Bool, true, cond, not, ◌&&◌, ◌||◌, List, ℕ, ◌+◌, ◌*◌, ◌-◌, ◌<◌, ltb, length, get_or, set, replicate}
use Rattle.std.proofs.Math.Seq.{paste}
use Rattle.sequence.specs.Wrap.{ahead}
use Rattle.window.specs.declared.Window.{Window}
use Rattle.window.specs.Record.{blank}
use Rattle.window.specs.Limits.{width}
use Rattle.window.specs.Order.{used}
use Rattle.window.specs.Plain.{Inside}
use Rattle.calls.specs.State.{recount}
use Rattle.table.specs.declared.Row.{Row}
use Rattle.table.specs.View.{nobody, slot_at, note_at, it_at, put}
use Rattle.table.specs.Note.{says_none, says_one}
use Rattle.table.specs.Apart.{Alike}
use Rattle.table.specs.Fold.{below}
use Rattle.table.specs.Sound.{SoundRow}
use Rattle.engine.specs.declared.Best.{Best}

-- ---- one packet more

-- the group of each row in use lies in the window
pub record InsideRows (w : Window) (hs : List Row) : Type 0 where
  pub at : (j : ℕ) → j < length hs → used (it_at hs j) ≡ true → Inside w (it_at hs j).stream (it_at hs j).snbase

-- a row after position i became present: what was right of it is right again
pub record Again (w : Window) (i : ℕ) (marks : List ℕ) (h h' : Row) : Type 0 where
  pub right : (old : List ℕ) → marks ≡ set old i 1 → used h.it ≡ true → SoundRow w old h → SoundRow w marks h'

-- row j is right again, and the others stay
pub record AgainAt (w : Window) (i : ℕ) (marks : List ℕ) (j : ℕ) (hs hs' : List Row) : Type 0 where
  pub alike : Alike hs' hs
  pub row : Again w i marks (get_or hs j nobody) (get_or hs' j nobody)
  pub others : (q : ℕ) → (q ≡ j → ⊥) → get_or hs' q nobody ≡ get_or hs q nobody

-- every row is right again
pub record AgainAll (w : Window) (i : ℕ) (marks : List ℕ) (hs hs' : List Row) : Type 0 where
  pub alike : Alike hs' hs
  pub rows : (j : ℕ) → j < length hs → Again w i marks (get_or hs j nobody) (get_or hs' j nobody)

-- ---- which row is next

-- a row in use with one packet missing
abbrev pub row_ready : List Row → ℕ → Bool
row_ready hs i = used (it_at hs i) && says_one (note_at hs i)

-- the order of rebuilding: by the position of SNBase, a column before a row
abbrev pub row_rank : (base : ℕ) → List Row → ℕ → ℕ
row_rank base hs i = ahead width base (it_at hs i).snbase * 2 + (it_at hs i).stream

-- row i where it is ready and ranks below the best so far, else that
abbrev pub better_row : (base : ℕ) → List Row → ℕ → Option ℕ → Option ℕ
better_row base hs i None = cond (row_ready hs i) (Some i) None
better_row base hs i (Some q) = cond (row_ready hs i && ltb (row_rank base hs i) (row_rank base hs q)) (Some i) (Some q)

-- the ready row of lowest rank among the first n
abbrev pub next_row : (base : ℕ) → List Row → ℕ → Option ℕ
next_row base hs n = below (better_row base hs) n None

-- the row of the best so far
abbrev pub row_of : Option Best → Option ℕ
row_of None = None
row_of (Some b) = Some b.at

-- row i where it is ready and ranks below the best so far, if there is one
abbrev pub pick : Option Best → (i rank : ℕ) → Bool → Option Best
pick None i rank ready = cond ready (Some (record { at = i; rank = rank })) None
pick (Some b) i rank ready = cond (ready && ltb rank b.rank) (Some (record { at = i; rank = rank })) (Some b)

-- ---- releasing what is spent

-- what a release works on: the window value, the payloads of parity, and the rows
pub record Desk : Type 0 where
  pub window : Window
  pub parity : List ℕ
  pub rows : List Row

-- a row in use with none missing
abbrev pub row_spent : List Row → ℕ → Bool
row_spent hs i = used (it_at hs i) && says_none (note_at hs i)

-- the record of row i and its payload are set to zero
abbrev pub free_row : ℕ → Desk → Desk
free_row i d =
    record {
      window = recount d.window d.window.present (d.window.in_use - 1);
      parity = paste d.parity (slot_at d.rows i * d.window.p) (replicate d.window.p 0) d.window.p;
      rows = put d.rows i blank;
    }

-- row i is set free if a test holds of it
abbrev pub free_if : (test : List Row → ℕ → Bool) → (i : ℕ) → Desk → Desk
free_if test i d = cond (test d.rows i) (free_row i d) d

-- each of the first m rows is
unfoldable pub free_below : (test : List Row → ℕ → Bool) → (m : ℕ) → Desk → Desk
free_below test m d = below (free_if test) m d
