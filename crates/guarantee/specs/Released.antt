-- Releasing the parity in hand that has a member behind the new base (calls' Move.antt): each record that has one is set to zero, and the others
-- are as they were.
use Rattle.std.specs.Prelude.{◌≡◌, true, List, ℕ, ◌<◌, ◌≤◌, replicate}
use Rattle.window.specs.declared.Record.{Record}
use Rattle.window.specs.declared.Window.{Window}
use Rattle.window.specs.Record.{blank}
use Rattle.window.specs.Limits.{rows}
use Rattle.window.specs.Store.{Store, record_at}
use Rattle.calls.specs.State.{State}
use Rattle.calls.specs.Call.{begun}
use Rattle.calls.specs.Move.{behind}
use Rattle.guarantee.specs.View.{Good}
use Rattle.guarantee.specs.Rounds.{at}
use Rattle.guarantee.specs.Moving.{bytes_at}

-- a record of a store, with its bytes
pub record Row (w : Window) (s : Store) (r : ℕ) (v : Record) (bytes : List ℕ) : Type 0 where
  pub is : record_at s r ≡ v
  pub has : bytes_at w s r ≡ bytes

-- the state after those among the first m records were released: no position changed; those are zero, the others as they were
pub record Released (w : Window) (a : ℕ) (s : Store) (by m : ℕ) (y : State) : Type 0 where
  pub used : ℕ
  pub store : Store
  pub is : y ≡ at w a used store 0 0
  pub good : Good w a used store
  pub media : store.media ≡ s.media
  pub timestamps : store.timestamps ≡ s.timestamps
  pub lengths : store.lengths ≡ s.lengths
  pub marks : store.marks ≡ s.marks
  pub gone : (r : ℕ) → r < m → behind by (begun w s) r ≡ true → Row w store r blank (replicate w.p 0)
  pub kept : (r : ℕ) → r < rows w → (behind by (begun w s) r ≡ true → m ≤ r) → Row w store r (record_at s r) (bytes_at w s r)
