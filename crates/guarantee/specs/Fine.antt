-- The invariant of a run: the store is in order, and the groups of its parity in hand are among those that there is room for. Every
-- faultless offer keeps it, and is a run of the theory.
use Rattle.std.specs.Prelude.{◌≡◌, ◌≢◌, ◌⊎◌, true, ℕ, ◌^◌, ◌<◌}
use mathlib.Core.List.{List, Memᴰ}
use Rattle.answer.specs.First.{None}
use Rattle.answer.specs.Number.{number_of, spoilt_of}
use Rattle.window.specs.declared.Window.{Window}
use Rattle.window.specs.Limits.{width, rows, set_up_tests}
use Rattle.window.specs.Store.{Store}
use Rattle.window.specs.Order.{is_in_use}
use Rattle.calls.specs.Content.{Recovery}
use Rattle.calls.specs.State.{recount}
use Rattle.calls.specs.Call.{Outcome}
use Rattle.peel.specs.Peel.{Offer, Runs, Spoiling}
use Rattle.guarantee.specs.Packets.{Packet}
use Rattle.guarantee.specs.View.{code, check_at, view}
use Rattle.guarantee.specs.Order.{Ordered}
use Rattle.guarantee.specs.Lying.{Lying}

-- a window value that refusals 1 to 3 let pass
pub record Opened (w : Window) : Type 0 where
  pub based : w.base < 2 ^ width
  pub faultless : None (set_up_tests w)

-- window value v and store s: in order, with the groups of the parity in hand in the list D
pub record Fine (w : Window) (D : List (ℕ × ℕ)) (v : Window) (s : Store) : Type 0 where
  pub present : ℕ
  pub used : ℕ
  pub window : v ≡ recount w present used
  pub order : Ordered w present used s
  pub keyed : (r : ℕ) → r < rows w → is_in_use w s r ≡ true → Memᴰ (check_at s r) D

-- a call for these offers keeps it, and is a run of the theory; where its answer counts a check as spoilt, one was found so, and where it is
-- 18, one lies
pub record Goes (w : Window) (D : List (ℕ × ℕ)) (os : List (Offer (ℕ × ℕ) Recovery Packet)) (s : Store) (x : Outcome) : Type 1 where
  pub fine : Fine w D x.window x.store
  pub runs : Runs (code w) (view w s) os (view w x.store)
  pub clear : (spoilt_of x.answer ≡ 0) ⊎ Spoiling (code w) (view w s) os
  pub believed : (number_of x.answer ≢ 18) ⊎ Lying w s os
