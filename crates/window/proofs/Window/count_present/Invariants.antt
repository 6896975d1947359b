use mathlib.Core.Path.{◌≡◌}
use Prim.Native.Nat.{◌-◌, ◌≤◌}
use Rattle.sequence.specs.Lists.{up_to, all, count}
use Rattle.window.specs.Order.{is_present}
use Rattle.window.proofs.Turn.{good_mark}
use Rattle.window.proofs.Window.count_present.Given as goal

abbrev pub invariant-loop-at : goal.invariant-loop-at
invariant-loop-at l = (l.at ≤ l.n) × (l.ones ≡ count (is_present l.marks) (up_to l.at)) × (l.ones ≤ l.at) × (l.good ≡ all (good_mark l.marks) (up_to l.at))

abbrev pub decreases-loop-at : goal.decreases-loop-at
decreases-loop-at l = l.n - l.at
