-- Rounds of rebuilding over a hand: what they do to every table that the hand is apart from, and what they keep.
use Rattle.std.specs.Prelude.{◌≡◌, List, ℕ, ◌+◌, ◌*◌, ◌≤◌, length}
use Rattle.std.proofs.Math.Option.{none}
use Rattle.window.specs.declared.Record.{Record}
use Rattle.window.specs.declared.Window.{Window}
use Rattle.window.specs.Store.{Store, stored}
use Rattle.window.specs.Bounds.{SetUp}
use Rattle.calls.specs.State.{scene, recount}
use Rattle.calls.specs.Settle.{next, round, settle}
use Rattle.table.specs.declared.Row.{Row}
use Rattle.table.specs.View.{slots, scatter}
use Rattle.table.specs.Apart.{Fits}
use Rattle.table.specs.Sound.{Sound}
use Rattle.engine.specs.declared.Round.{Round}

-- the parts of a store that a call is lent, a hand in place of the table
pub record Parts : Type 0 where
  pub media : List ℕ
  pub timestamps : List ℕ
  pub lengths : List ℕ
  pub marks : List ℕ
  pub parity : List ℕ
  pub rows : List Row

-- the parts as a store, the hand scattered over a table
abbrev pub over : Parts → List Record → Store
over x t = stored x.media x.timestamps x.lengths x.marks x.parity (scatter x.rows t)

-- a window value whose numbers are good, as much of each part as it needs, a sound hand, and counts within their limits
pub record Serves (w : Window) (x : Parts) : Type 0 where
  pub set_up : SetUp w
  pub media-long : w.n * w.p ≤ length x.media
  pub timestamps-long : w.n ≤ length x.timestamps
  pub lengths-long : w.n ≤ length x.lengths
  pub marks-long : w.n ≤ length x.marks
  pub parity-long : w.k * w.p ≤ length x.parity
  pub sound : Sound w x.marks x.rows

-- what one round leaves: of every table what the definition says; the slots, and whether anything was ready
pub record Rounded (w : Window) (x : Parts) (r : Round) (y : Parts) : Type 0 where
  pub kept : r.window ≡ recount w r.window.present r.window.in_use
  pub serves : Serves r.window y
  pub same-slots : slots y.rows ≡ slots x.rows
  pub small : r.rebuilt + r.spoilt ≤ 1
  pub more-present : r.window.present ≤ w.present + r.rebuilt
  pub is : (t : List Record) → Fits t w.k x.rows → (b q : ℕ) → scene r.window (over y t) (b + r.rebuilt) (q + r.spoilt) ≡ round (scene w (over x t) b q)
  pub rest : r.rebuilt + r.spoilt ≡ 0 → (t : List Record) → Fits t w.k x.rows → (b q : ℕ) → next (scene w (over x t) b q) ≡ none
  pub still : r.rebuilt + r.spoilt ≡ 0 → y.rows ≡ x.rows

-- what settling leaves
pub record Settled (w : Window) (x : Parts) (r : Round) (y : Parts) : Type 0 where
  pub few : r.rebuilt + r.spoilt ≤ w.in_use
  pub same-slots : slots y.rows ≡ slots x.rows
  pub is : (t : List Record) → Fits t w.k x.rows → (b q : ℕ) → scene r.window (over y t) (b + r.rebuilt) (q + r.spoilt) ≡ settle (scene w (over x t) b q)
  pub still : r.rebuilt + r.spoilt ≡ 0 → y.rows ≡ x.rows
