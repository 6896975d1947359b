-- What the packets that leave need: as much of each part as the window has positions, and no packet present that is longer than P.
use Rattle.std.specs.Prelude.{◌≡◌, false, List, [], ℕ, ◌*◌, ◌<◌, ◌≤◌, length, get_or}
use Rattle.window.specs.declared.StoreView.{StoreView}
use Rattle.window.specs.declared.Window.{Window}
use Rattle.window.specs.Bounds.{SetUp}
use Rattle.window.specs.Group.{is_missing}
use Rattle.window.specs.Store.{Store, stored}

-- the positions of a store alone: what leaves looks at nothing else
abbrev pub positions : (media timestamps lengths marks : List ℕ) → Store
positions media timestamps lengths marks = stored media timestamps lengths marks [] []

-- the positions of a window lie in these parts
pub record Lies (w : Window) (media timestamps lengths marks : List ℕ) : Type 0 where
  pub set_up : SetUp w
  pub media-long : w.n * w.p ≤ length media
  pub timestamps-long : w.n ≤ length timestamps
  pub lengths-long : w.n ≤ length lengths
  pub marks-long : w.n ≤ length marks
  pub lengths-low : (i : ℕ) → i < w.n → is_missing marks i ≡ false → get_or lengths i 0 ≤ w.p

-- the positions of a store that is lent to be read
abbrev pub held_in : StoreView → Store
held_in v = positions v.media.now v.timestamps.now v.lengths.now v.marks.now

-- the positions of a window lie in such a store
abbrev pub LiesIn : Window → StoreView → Type 0
LiesIn w v = Lies w v.media.now v.timestamps.now v.lengths.now v.marks.now
