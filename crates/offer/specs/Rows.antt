-- Refusals 13 to 16 and 18 of a parity datagram over the rows of a hand.
use Rattle.std.specs.Prelude.{◌≡◌, Bool, ◌&&◌, List, ℕ, ◌+◌, ◌<◌, ◌≤◌, eqb, length, Result, Ok}
use Rattle.answer.specs.declared.Refusal.{Refusal}
use Rattle.answer.specs.First.{first}
use Rattle.answer.specs.Refused.{fault_of}
use Rattle.rtp.specs.Fec.{snbase}
use Rattle.window.specs.declared.Look.{Look}
use Rattle.window.specs.declared.Record.{Record}
use Rattle.window.specs.declared.Window.{Window}
use Rattle.window.specs.Limits.{least_missing}
use Rattle.window.specs.Store.{stored, payload_in}
use Rattle.window.specs.Group.{group}
use Rattle.window.specs.Look.{look, at_least}
use Rattle.window.specs.Order.{used}
use Rattle.window.specs.Plain.{Inside}
use Rattle.calls.specs.Accept.{recovery_of}
use Rattle.calls.specs.Call.{same_recovery, parity_place_tests}
use Rattle.table.specs.declared.Row.{Row}
use Rattle.table.specs.View.{slot_at, it_at, scatter}
use Rattle.table.specs.Apart.{Fits}

-- a datagram of its headers and at most p bytes
abbrev pub Fitting : (headers p : ℕ) → List ℕ → Type 0
Fitting headers p g = (headers ≤ length g) × (length g ≤ headers + p)

-- row i is in use and holds this group
abbrev pub row_holds : List Row → (stream snbase : ℕ) → ℕ → Bool
row_holds hs stream snbase i = used (it_at hs i) && (eqb (it_at hs i).stream stream && eqb (it_at hs i).snbase snbase)

-- and holds it with the same recovery
abbrev pub row_same : (p : ℕ) → (parity : List ℕ) → List Row → (stream : ℕ) → List ℕ → ℕ → Bool
row_same p parity hs stream g i =
    row_holds hs stream (snbase g) i
    && same_recovery
    (record {
      content =
          record {
            timestamp = (it_at hs i).timestamp_recovery;
            length = (it_at hs i).length_recovery;
            payload = payload_in p parity (it_at hs i).payload_length (slot_at hs i);
          };
      size = (it_at hs i).payload_length;
    })
    (recovery_of p g)

-- the first of refusals 13 to 15, 18 and 16 that applies, and what is known where none does
pub record Found (w : Window) (stream : ℕ) (g media timestamps lengths marks parity : List ℕ) (hs : List Row) (r : Result Look Refusal) : Type 0 where
  pub is : (t : List Record) → Fits t w.k hs → fault_of r ≡ first (parity_place_tests w stream g (stored media timestamps lengths marks parity (scatter hs t)))
  pub inside : (f : Look) → r ≡ Ok f → Inside w stream (snbase g)
  pub looked : (f : Look) → r ≡ Ok f → f ≡ look marks (group w stream (snbase g))
  pub room : (f : Look) → r ≡ Ok f → least_missing ≤ at_least f → w.in_use < w.k
