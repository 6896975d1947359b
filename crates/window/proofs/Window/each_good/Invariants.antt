use mathlib.Core.Path.{◌≡◌}
use mathlib.Core.Bool.{Bool, not, ◌||◌}
use mathlib.Core.List.{List}
use Prim.Native.Nat.{ℕ, ◌-◌, ◌≤◌}
use lib.ListN.{get_or}
use Rattle.sequence.specs.Lists.{up_to, all}
use Rattle.rtp.specs.Length.{good_length}
use Rattle.window.specs.Order.{is_present}
use Rattle.window.proofs.Window.each_good.Given as goal

abbrev good-at : (p : ℕ) → (lengths marks : List ℕ) → ℕ → Bool
good-at p lengths marks k = not (is_present marks k) || good_length p (get_or lengths k 0)

abbrev pub invariant-loop-i : goal.invariant-loop-i
invariant-loop-i l = (l.i ≤ l.n) × (l.good ≡ all (good-at l.p l.lengths l.marks) (up_to l.i))
