-- none is gathered of the records passed
use Rattle.std.proofs.Common.{◌≡◌, [], ◌-◌, ◌%◌, ◌≤◌}
use Rattle.table.specs.Gather.{gathered}
use Rattle.table.proofs.free_front.Given as goal

abbrev pub invariant-loop-i : goal.invariant-loop-i
invariant-loop-i l = (l.i ≤ l.to) × (l.i % 4 ≡ 0) × (gathered l.i l.table ≡ [])

abbrev pub decreases-loop-i : goal.decreases-loop-i
decreases-loop-i l = l.to - l.i
