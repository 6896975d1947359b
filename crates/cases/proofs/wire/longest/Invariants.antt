-- No length is above two units.
use Rattle.std.proofs.Common.{◌≤◌}
use Rattle.cases.proofs.wire.longest.Given as goal

abbrev pub invariant-loop-j : goal.invariant-loop-j
invariant-loop-j l = l.most ≤ 376
