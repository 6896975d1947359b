-- A parity packet that contradicts its group (02, request 6): what an answer 18 says, and a run of the theory that meets such a check.
use Rattle.std.specs.Prelude.{◌≡◌, Bool, false, not, ℕ, T, eqb}
use mathlib.Core.List.{List, [], ◌∷◌, Memᴰ}
use Rattle.sequence.specs.Lists.{any}
use Rattle.window.specs.declared.Window.{Window}
use Rattle.window.specs.Store.{Store}
use Rattle.window.specs.Group.{is_missing}
use Rattle.calls.specs.Content.{Recovery, same_recovery, recovery_over}
use Rattle.peel.specs.Peel.{Offer, check, Runs}
use Rattle.guarantee.specs.Packets.{Packet}
use Rattle.guarantee.specs.View.{group_of, code, view}

-- ---- what an answer 18 says
-- each test has another number than k
abbrev pub Others : ℕ → List (ℕ × Bool) → Type 0
Others k [] = Unit
Others k ((j, applies) ∷ tests) = T (not (eqb j k)) × Others k tests

-- ---- a run that meets a check that lies
-- from store s, some of a list of offers are taken in, and a check of the list then has its whole group present and carries something else
-- than that gives
pub record Lying (w : Window) (s : Store) (os : List (Offer (ℕ × ℕ) Recovery Packet)) : Type 1 where
  pub taken : List (Offer (ℕ × ℕ) Recovery Packet)
  pub among : (p : Offer (ℕ × ℕ) Recovery Packet) → Memᴰ p taken → Memᴰ p os
  pub then : Store
  pub runs : Runs (code w) (view w s) taken (view w then)
  pub key : ℕ × ℕ
  pub carries : Recovery
  pub offered : Memᴰ (check key carries) os
  pub whole : any (is_missing then.marks) (group_of w key) ≡ false
  pub differs : same_recovery (recovery_over w then (group_of w key)) carries ≡ false
