use Rattle.std.proofs.Common.{◌≡◌, ◌*◌, length, take}
use Rattle.xor.specs.Xor.{xor_parts}
use Rattle.parity.specs.Rows.{places}
use Rattle.parity.proofs.xor_groups.Given as goal

abbrev pub invariant-loop-group : goal.invariant-loop-group
invariant-loop-group g l = l.sum ≡ xor_parts l.media (places (length l.initial.sum) (take (l.group * g.row.N) l.rows)) 0 (length l.initial.sum) l.initial.sum
