-- A move over a hand: what it says of every table that the hand was taken of.
use Rattle.std.specs.Prelude.{◌≡◌, false, List, ℕ, ◌*◌, ◌≤◌, length, Result, Ok, Err}
use Rattle.answer.specs.declared.Refusal.{Refusal}
use Rattle.answer.specs.declared.Answer.TheVariants.{Done, Refused}
use Rattle.answer.specs.Refused.{refusal_number}
use Rattle.answer.specs.First.{first}
use Rattle.window.specs.declared.Record.{Record}
use Rattle.window.specs.declared.Sizes.{Sizes}
use Rattle.window.specs.declared.Window.{Window}
use Rattle.window.specs.Store.{Store, stored, sizes_of}
use Rattle.calls.specs.Move as call
use Rattle.table.specs.declared.Row.{Row}
use Rattle.table.specs.View.{slots, scatter}
use Rattle.table.specs.Apart.{Alike}
use Rattle.order.specs.Stands.{Taken, Stands}
use Rattle.engine.specs.Round.{Parts, over}
use Rattle.moving.specs.declared.Moved.{Moved}

-- the first refusal that applies, or 0, and what it leaves of the hand: notes and nothing else
pub record Judged (w : Window) (by : ℕ) (z : Sizes) (room count : ℕ) (lengths marks : List ℕ) (hs hs' : List Row) (fault : ℕ) : Type 0 where
  pub alike : Alike hs' hs
  pub is : (media timestamps parity out sizes : List ℕ) (t : List Record) → z ≡ sizes_of (stored media timestamps lengths marks parity (scatter hs t)) → length out ≡ room → length sizes ≡ count → Taken t w.k hs
      → fault ≡ first (call.move_tests w by (stored media timestamps lengths marks parity (scatter hs t)) out sizes)
  pub stands : fault ≡ 0 → Stands w z false lengths marks hs'
  pub some : fault ≡ 0 → 1 ≤ by
  pub inside : fault ≡ 0 → by ≤ w.n
  pub slots-long : fault ≡ 0 → by * call.slot_size w ≤ room
  pub sizes-long : fault ≡ 0 → by ≤ count

-- the outcome of a move: a refusal leaves window value, store and outputs as they were
abbrev pub result_of : Window → Result Moved Refusal → Store → (out sizes : List ℕ) → call.Moved
result_of w (Ok r) s out sizes = record { answer = Done r.count 0; window = r.window; store = s; out = out; sizes = sizes }
result_of w (Err e) s out sizes = record { answer = Refused (refusal_number e); window = w; store = s; out = out; sizes = sizes }

-- a move is made or refused
pub record Advance (w : Window) (by len : ℕ) (x : Parts) (out sizes : List ℕ) (r : Result Moved Refusal) (y : Parts) (out' sizes' : List ℕ) : Type 0 where
  pub same-slots : slots y.rows ≡ slots x.rows
  pub is : (t : List Record) → length t ≡ len → Taken t w.k x.rows → result_of w r (over y t) out' sizes' ≡ call.moved w by (over x t) out sizes
  pub still : (e : Refusal) → r ≡ Err e → (t : List Record) → scatter y.rows t ≡ scatter x.rows t
