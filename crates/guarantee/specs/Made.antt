-- Demand 2 (Demand2.antt), proved: an accepted offer is a run of the theory, whatever it carries, and what such a run leaves is known.
use Rattle.std.specs.Prelude.{ℕ}
use mathlib.Core.List.{[], ◌∷◌}
use Rattle.window.specs.declared.Window.{Window}
use Rattle.window.specs.Store.{Store}
use Rattle.calls.specs.Content.{Recovery}
use Rattle.calls.specs.Call.{Outcome}
use Rattle.peel.specs.Peel as Theory
use Rattle.guarantee.specs.Packets.{Packet}
use Rattle.guarantee.specs.View.{code, view, Good}

-- ---- a call as moves of the theory
-- an accepted offer p, with the outcome x: the store was in order, and the call took p in and made steps, and did nothing else
pub record Moved (p : Theory.Offer (ℕ × ℕ) Recovery Packet) (w : Window) (s : Store) (x : Outcome) : Type 1 where
  pub before : Good w w.present w.in_use s
  pub runs : Theory.Runs (code w) (view w s) (p ∷ []) (view w x.store)
  pub present : ℕ
  pub used : ℕ
  pub after : Good w present used x.store
