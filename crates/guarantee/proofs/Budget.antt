-- Rounds with any budget, and any other engine (calls' Settle.antt, the theory's Rest.antt): what holds beyond the settling of a call.
use Rattle.std.specs.Prelude.{◌≡◌, ◌⊎◌, ℕ, ◌+◌, ◌<◌, ◌≤◌, length}
use Rattle.std.proofs.Common.{sym, subst, inl, ⊎_elim}
use mathlib.Core.List.Memᴰ
use mathlib.Core.List.{List, [], Memᴰ}
use Rattle.window.specs.declared.Window.{Window}
use Rattle.calls.specs.Content.{Recovery}
use Rattle.calls.specs.State.{State}
use Rattle.calls.specs.Settle.{round}
use Rattle.peel.specs.Peel as Peel
use Rattle.peel.specs.Peel.{View, Steps, Has}
use Rattle.peel.specs.Rest.{Still, rounds}
use Rattle.peel.proofs.Rest.{rounds-steps, rounds-clear, rounds_quiet, rounds_spend, Quiet, budgets_quiet}
use Rattle.peel.proofs.Theorem.{never-spoilt, engines_agree}
use Rattle.guarantee.specs.Packets.{Packet}
use Rattle.guarantee.specs.View.{Limits, code, view}
use Rattle.guarantee.specs.Rounds.{Working, done_by}
use Rattle.guarantee.proofs.Rounds.{engine}
use Rattle.guarantee.specs.Demand3.{Stretch, Fills}
use Rattle.guarantee.specs.Start.{Holds}
use Rattle.guarantee.specs.Sent.{sent}
use Rattle.guarantee.proofs.Names.{got-unaltered}

-- of calls with these budgets of rounds, one after the other, some call leaves nothing to rebuild, if there is a call more than records
-- in use, and none has a budget of nothing
pub budgets_finish : {w : Window} {a : ℕ} {y : State} → Working w a y → (bs : List ℕ) → ((b : ℕ) → Memᴰ b bs → 0 < b) → y.window.in_use < length bs → Quiet (code w) (engine w a) bs y
budgets_finish {w} {a} {y} W bs = budgets_quiet (code w) (engine w a) bs y W

module _ {w : Window} {a : ℕ} {y : State} (W : Working w a y) (b : ℕ) where
  -- b rounds that did less than b, rebuilt and spoilt together, have left nothing to rebuild
  pub budget_rests : done_by (rounds round b y) < done_by y + b → Still (code w) (view w (rounds round b y).store)
  budget_rests = rounds_quiet (code w) (engine w a) b y W

  -- b rounds that did b have spent b records, so there are no more such budgets than records in use
  pub budget_spends : (done_by (rounds round b y) < done_by y + b) ⊎ ((rounds round b y).window.in_use + b ≤ y.window.in_use)
  budget_spends = rounds_spend (code w) (engine w a) b y W

  module _ (L : Limits w) {t : Stretch} (F : Fills w t) (H : Holds w t y.store) where
    -- what the store holds is unaltered
    held : (p : Peel.Offer (ℕ × ℕ) Recovery Packet) → Has (view w y.store) p → Peel.Unaltered (code w) (sent w t) p
    held = subst (λ z. (p : Peel.Offer (ℕ × ℕ) Recovery Packet) → Has (view w z.store) p → Peel.Unaltered (code w) (sent w t) p) (sym W.is)
        (λ p m. got-unaltered L F W.good {offers = []} (λ o n. absurd (Memᴰ.not-nil n)) (subst (λ z. Holds w t z.store) W.is H) p (inl m))

    -- so no round finds parity spoilt
    pub budget_unspoilt : (rounds round b y).spoilt ≡ y.spoilt
    budget_unspoilt =
        ⊎_elim (λ e. e) (λ z. absurd (never-spoilt (code w) (sent w t) (λ p m. ⊎_elim (held p) (λ n. absurd (Memᴰ.not-nil n)) m) z)) (rounds-clear (code w) (engine w a) b y W)

    -- and any other engine, at its end from the same store, has the same packets as the rounds at theirs
    pub any-engine : Still (code w) (view w (rounds round b y).store)
        → (u : View (ℕ × ℕ) Recovery Packet) → Steps (code w) (view w y.store) u → Still (code w) u → (i : ℕ) → (view w (rounds round b y).store).slot i ≡ u.slot i
    any-engine rest u steps still =
        engines_agree (code w) (sent w t) (view w y.store) (view w (rounds round b y).store) u held (rounds-steps (code w) (engine w a) b y W) rest steps still
