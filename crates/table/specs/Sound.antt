-- What is known of a hand behind refusal 5: each row in use can be worked on.
use Rattle.std.specs.Prelude.{◌≡◌, true, List, ℕ, ◌<◌, ◌≤◌, length, get_or}
use Rattle.window.specs.declared.Window.{Window}
use Rattle.window.specs.Group.{group}
use Rattle.window.specs.Look.{look}
use Rattle.window.specs.Order.{used}
use Rattle.window.specs.Plain.{Inside}
use Rattle.table.specs.View.{Row, nobody, it_at}
use Rattle.table.specs.Note.{note_of}

-- the slot of a row is one of the window's records, its group lies in the window, its payload is no longer than P, and its note is that of a look at its group
pub record SoundRow (w : Window) (marks : List ℕ) (h : Row) : Type 0 where
  pub slot-low : h.slot < w.k
  pub inside : Inside w h.it.stream h.it.snbase
  pub size_low : h.it.payload_length ≤ w.p
  pub noted : h.note ≡ note_of (look marks (group w h.it.stream h.it.snbase))

-- this is so of each row in use
pub record Sound (w : Window) (marks : List ℕ) (hs : List Row) : Type 0 where
  pub at : (i : ℕ) → i < length hs → used (it_at hs i) ≡ true → SoundRow w marks (get_or hs i nobody)
