-- An offer over a hand: what it says of every table that the hand was taken of.
use Rattle.std.specs.Prelude.{◌≡◌, Bool, true, false, List, ℕ, ◌+◌, ◌*◌, ◌<◌, ◌≤◌, length, Option, Some, None, Result, Ok, Err}
use Rattle.std.proofs.Math.Seq.{paste}
use Rattle.answer.specs.declared.Refusal.{Refusal}
use Rattle.answer.specs.declared.Answer.TheVariants.{Done}
use Rattle.answer.specs.Refused.{refusal_number}
use Rattle.rtp.specs.Fec.{snbase}
use Rattle.window.specs.declared.Record.{Record}
use Rattle.window.specs.declared.Window.{Window}
use Rattle.window.specs.Store.{Store, stored}
use Rattle.calls.specs.State.{State, scene, recount, held_record}
use Rattle.calls.specs.Accept.{recovery_of}
use Rattle.calls.specs.Call.{Outcome, refused, settled}
use Rattle.table.specs.declared.Row.{Row}
use Rattle.table.specs.View.{slots, scatter}
use Rattle.table.specs.Apart.{Fits}
use Rattle.table.specs.Hold.{gap_from, hold_in}
use Rattle.order.specs.Stands.{Taken}
use Rattle.engine.specs.Round.{Parts, over}
use Rattle.offer.specs.declared.Offered.{Offered}

-- the rows with the record that is to go into the hand, if one is held
abbrev pub left : Option Record → List Row → List Row
left None hs = hs
left (Some v) hs = hold_in 0 v hs

-- the outcome, over a table, of a packet that is taken in
abbrev pub outcome : Offered → Parts → List Record → Outcome
outcome r y t = record { answer = Done r.counts.count r.counts.spoilt; window = r.window; store = stored y.media y.timestamps y.lengths y.marks y.parity (scatter (left r.held y.rows) t) }

-- a packet was taken in, with its own counts: of every table what settling leaves of the state then
pub record Went (v : Window) (x : Parts) (b q : ℕ) (r : Offered) (y : Parts) : Type 0 where
  pub same-slots : slots y.rows ≡ slots x.rows
  pub is : (t : List Record) → Fits t v.k x.rows → outcome r y t ≡ settled (scene v (over x t) b q)
  pub still : r.changed ≡ false → (t : List Record) → scatter (left r.held y.rows) t ≡ scatter x.rows t
  pub free : r.held ≡ None

-- a packet that no refusal applies to is taken in: of every table what settling leaves of a state
pub record Accepted (accept : Store → State) (k : ℕ) (x : Parts) (r : Offered) (y : Parts) : Type 0 where
  pub same-slots : slots y.rows ≡ slots x.rows
  pub is : (t : List Record) → Fits t k x.rows → outcome r y t ≡ settled (accept (over x t))
  pub still : r.changed ≡ false → (t : List Record) → scatter (left r.held y.rows) t ≡ scatter x.rows t
  pub low : (v : Record) → r.held ≡ Some v → gap_from 0 y.rows < k

-- a parity packet is held: its payload at the first free record, its record to go there
pub record Kept (w : Window) (stream : ℕ) (g parity : List ℕ) (hs : List Row) (r : Offered) (parity' : List ℕ) : Type 0 where
  pub counts : r.counts ≡ record { count = 0; spoilt = 0 }
  pub windows : r.window ≡ recount w w.present (w.in_use + 1)
  pub changes : r.changed ≡ true
  pub holds : r.held ≡ Some (held_record stream (snbase g) (recovery_of w.p g))
  pub lies : parity' ≡ paste parity (gap_from 0 hs * w.p) (recovery_of w.p g).content.payload w.p

-- the outcome of an offer: a refusal leaves window value and store as they were
abbrev pub result_of : Window → Result Offered Refusal → Parts → List Record → Outcome
result_of w (Ok r) y t = outcome r y t
result_of w (Err e) y t = refused (refusal_number e) w (over y t)

-- whether the records differ from what they were: not behind a refusal
abbrev pub changed_by : Result Offered Refusal → Bool
changed_by (Ok r) = r.changed
changed_by (Err e) = false

-- the record that is held: none behind a refusal
abbrev pub held_by : Result Offered Refusal → Option Record
held_by (Ok r) = r.held
held_by (Err e) = None

-- an offer is taken in or refused
pub record Offer (call : Store → Outcome) (w : Window) (len : ℕ) (x : Parts) (r : Result Offered Refusal) (y : Parts) : Type 0 where
  pub same-slots : slots y.rows ≡ slots x.rows
  pub is : (t : List Record) → length t ≡ len → Taken t w.k x.rows → result_of w r y t ≡ call (over x t)
  pub still : changed_by r ≡ false → (t : List Record) → scatter (left (held_by r) y.rows) t ≡ scatter x.rows t
  pub low : (v : Record) → held_by r ≡ Some v → (gap_from 0 y.rows < w.k) × (w.k ≤ len)
