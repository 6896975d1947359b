-- The window value of a refused opening (01, "Setting up a window"): every later call refuses it with 1, whatever else it is given.
use Rattle.std.specs.Prelude.{◌≡◌, List, ℕ}
use Rattle.answer.specs.declared.Answer.TheVariants.{Refused}
use Rattle.window.specs.Store.{Store}
use Rattle.calls.specs.Call.{Outcome, Written, no_window}

-- an offer refused with 1: the window value and the store stay
pub record RefusedOffer (s : Store) (x : Outcome) : Type 0 where
  pub answer : x.answer ≡ Refused 1
  pub window : x.window ≡ no_window
  pub store : x.store ≡ s

-- a reading or a writing refused with 1: the window value and the output stay
pub record RefusedOutput (out : List ℕ) (x : Written) : Type 0 where
  pub answer : x.answer ≡ Refused 1
  pub window : x.window ≡ no_window
  pub output : x.out ≡ out
