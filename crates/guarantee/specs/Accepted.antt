-- Accepting a packet (calls' Accept.antt) and settling, as the theory's moves: what every accepted offer leaves behind.
use Rattle.std.specs.Prelude.{◌≡◌, ◌⊎◌, [], ◌∷◌, ℕ, ◌+◌}
use Rattle.answer.specs.declared.Answer.TheVariants.{Done}
use Rattle.window.specs.declared.Window.{Window}
use Rattle.window.specs.Store.{Store}
use Rattle.calls.specs.Content.{Recovery}
use Rattle.calls.specs.State.{State, recount}
use Rattle.calls.specs.Call.{Outcome}
use Rattle.peel.specs.Peel.{Offer, Runs, Spoiling}
use Rattle.guarantee.specs.Packets.{Packet}
use Rattle.guarantee.specs.View.{code, view}
use Rattle.guarantee.specs.Rounds.{Working}
use Rattle.guarantee.specs.Order.{Ordered}

-- the state y after a packet p was taken into a store with a packets present, of which it made `more` present itself: rounds may work
-- on it, and it was reached by a run of the theory that took in just p; where it counts a check as spoilt, one was found so
pub record Taken (w : Window) (a : ℕ) (s : Store) (p : Offer (ℕ × ℕ) Recovery Packet) (more : ℕ) (y : State) : Type 1 where
  pub working : Working w (a + more) y
  pub runs : Runs (code w) (view w s) (p ∷ []) (view w y.store)
  pub clear : (y.spoilt ≡ 0) ⊎ Spoiling (code w) (view w s) (p ∷ [])

-- what an accepted offer p leaves: its answer, a store in order, and the packets present risen by what was rebuilt and `more`; where it counts a
-- check as spoilt, one was found so
pub record Settled (w : Window) (a : ℕ) (s : Store) (p : Offer (ℕ × ℕ) Recovery Packet) (more : ℕ) (x : Outcome) : Type 1 where
  pub present : ℕ
  pub used : ℕ
  pub count : ℕ
  pub spoilt : ℕ
  pub answer : x.answer ≡ Done count spoilt
  pub window : x.window ≡ recount w present used
  pub order : Ordered w present used x.store
  pub runs : Runs (code w) (view w s) (p ∷ []) (view w x.store)
  pub rise : present ≡ a + more + count
  pub clear : (spoilt ≡ 0) ⊎ Spoiling (code w) (view w s) (p ∷ [])
