use mathlib.Core.Path.{◌≡◌}
use mathlib.Core.Bool.{Bool, cond}
use mathlib.Core.List.{List}
use Prim.Native.Nat.{ℕ, ◌-◌, ◌≤◌}
use lib.Dec.{eqb}
use lib.ListN.{get_or}
use Rattle.sequence.specs.Lists.{up_to, all}
use Rattle.window.specs.Order.{is_present}
use Rattle.window.proofs.Window.all_full.Given as goal

abbrev pub full_at : (p : ℕ) → (lengths marks : List ℕ) → ℕ → Bool
full_at p lengths marks k = eqb (get_or lengths k 0) (cond (is_present marks k) p 0)

abbrev pub invariant-loop-i : goal.invariant-loop-i
invariant-loop-i l = (l.i ≤ l.n) × (l.full ≡ all (full_at l.p l.lengths l.marks) (up_to l.i))
