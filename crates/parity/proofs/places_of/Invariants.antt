use Rattle.std.proofs.Common.{◌≡◌, ◌++◌, ◌-◌, replicate, take}
use Rattle.parity.specs.Rows.{places}
use Rattle.parity.proofs.places_of.Given as goal

abbrev pub invariant-loop-i : goal.invariant-loop-i
invariant-loop-i g l = l.places ≡ places l.p (take l.i l.rows) ++ replicate (g.row.N - l.i) 0
