use mathlib.Core.Path.{◌≡◌}
use Prim.Native.Nat.{◌≤◌, ◌-◌}
use Rattle.sequence.specs.Lists.{up_to, any}
use Rattle.offer.specs.Rows.{row_same}
use Rattle.offer.proofs.any_same.Given as goal

abbrev pub invariant-loop-i : goal.invariant-loop-i
invariant-loop-i l = l.found ≡ any (row_same l.w.p l.parity l.rows l.stream l.datagram) (up_to l.i)
