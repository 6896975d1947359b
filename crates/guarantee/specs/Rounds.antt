-- Rounds (calls' Settle.antt) as an engine of the theory: each is a number of steps, and enough of them bring the receiver to rest.
use Rattle.std.specs.Prelude.{◌≡◌, ◌⊎◌, ℕ, suc, ◌+◌, ◌<◌, ◌≤◌, length}
use Rattle.std.proofs.Math.Bool.{true}
use Rattle.window.specs.declared.Window.{Window}
use Rattle.window.specs.Store.{Store}
use Rattle.window.specs.Order.{is_in_use, missing_at}
use Rattle.calls.specs.Content.{Recovery}
use Rattle.calls.specs.State.{State, scene, recount}
use Rattle.calls.specs.Settle.{ready}
use Rattle.peel.specs.Peel.{Spoilt, Steps}
use Rattle.peel.specs.Rest.{Still}
use Rattle.guarantee.specs.View.{code, view, Good, Missing}

-- a state whose window value has a given window's set-up numbers
abbrev pub at : Window → (a u : ℕ) → Store → (rebuilt spoilt : ℕ) → State
at w a u s rebuilt spoilt = scene (recount w a u) s rebuilt spoilt

-- ---- the record that rebuilds next
-- record r is ready and below m
pub record Picked (x : State) (m r : ℕ) : Type 0 where
  pub below : r < m
  pub is-ready : ready x r ≡ true

-- ---- what is spent is released
-- the state after the first m records with none missing were released
pub record Freed (w : Window) (a u : ℕ) (s : Store) (c q m : ℕ) (y : State) : Type 1 where
  pub used : ℕ
  pub store : Store
  pub is : y ≡ at w a used store c q
  pub good : Good w a used store
  pub steps : Steps (code w) (view w s) (view w store)
  pub spent : ((store ≡ s) × (used ≡ u)) ⊎ (used < u)
  pub least : (r : ℕ) → r < m → is_in_use w store r ≡ true → 1 ≤ length (missing_at w store r)

-- ---- rounds
-- a state that rounds work on: the store in order, something missing of each check in hand, and b and what was rebuilt present
pub record Working (w : Window) (b : ℕ) (y : State) : Type 0 where
  pub present : ℕ
  pub used : ℕ
  pub store : Store
  pub count : ℕ
  pub spoilt : ℕ
  pub is : y ≡ at w present used store count spoilt
  pub good : Good w present used store
  pub least : Missing 1 w store
  pub rise : present ≡ b + count

-- how much was done: packets rebuilt and parity packets found spoilt
abbrev pub done_by : State → ℕ
done_by y = y.rebuilt + y.spoilt

-- some check in hand is spoilt
abbrev pub SomeSpoilt : Window → Store → Type 0
SomeSpoilt w s = (k : ℕ × ℕ) × (v : Recovery) × Spoilt (code w) (view w s) k v

-- one round from y to z: a number of steps; it found the receiver at rest and did nothing, or it rebuilt one packet or found one check spoilt,
-- and spent a record
pub record Round (w : Window) (b : ℕ) (y z : State) : Type 1 where
  pub after : Working w b z
  pub steps : Steps (code w) (view w y.store) (view w z.store)
  pub work : ((z ≡ y) × Still (code w) (view w y.store)) ⊎ ((z.window.in_use < y.window.in_use) × (done_by z ≡ suc (done_by y)))
  pub clear : (z.spoilt ≡ y.spoilt) ⊎ SomeSpoilt w y.store
