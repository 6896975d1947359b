-- A window value with other counts serves as well. Assumes nothing.
use mathlib.Core.Path.{◌≡◌, ap, ◌∙◌}
use mathlib.Core.List.{List}
use Prim.Native.Nat.{ℕ}
use Rattle.window.specs.declared.Window.{Window}
use Rattle.window.specs.Bounds.{SetUp}
use Rattle.calls.specs.State.{recount}
use Rattle.table.specs.declared.Row.{Row}
use Rattle.table.specs.Sound.{SoundRow, Sound}

pub set_up_same : (w v : Window) (a b : ℕ) → v ≡ recount w a b → SetUp w → SetUp v
set_up_same w v a b e h =
    rw e
    (record {
      profile = h.profile;
      p-low = h.p-low;
      p-high = h.p-high;
      p-good = h.p-good;
      room = h.room;
      n-high = h.n-high;
      k-low = h.k-low;
      k-high = h.k-high;
    })

row_same_lem : (w : Window) (a b : ℕ) (marks : List ℕ) (h : Row) → SoundRow w marks h → SoundRow (recount w a b) marks h
row_same_lem w a b marks h s = record { slot-low = s.slot-low; inside = record { below = s.inside.below }; size_low = s.size_low; noted = s.noted }

pub sound-same : (w v : Window) (a b : ℕ) (marks : List ℕ) (hs : List Row) → v ≡ recount w a b → Sound w marks hs → Sound v marks hs
sound-same w v a b marks hs e s = rw e (record { at = λ i l u. row_same_lem w a b marks _ (s.at i l u) })

-- counts changed twice are counts changed
pub recount_twice : (w v u : Window) → v ≡ recount w v.present v.in_use → u ≡ recount v u.present u.in_use → u ≡ recount w u.present u.in_use
recount_twice w v u e f = f ∙ ap (λ (x : Window). recount x u.present u.in_use) e
