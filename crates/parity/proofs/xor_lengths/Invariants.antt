use Rattle.std.proofs.Common.{◌≡◌, map, get_or, take}
use Rattle.std.specs.Int.Bits.{bit_xor}
use Rattle.xor.specs.Xor.{xor_all}
use Rattle.parity.proofs.xor_lengths.Given as goal

abbrev pub invariant-loop-row : goal.invariant-loop-row
invariant-loop-row l = l.sum ≡ bit_xor l.with (xor_all (map (λ k. get_or l.lengths k 0) (take l.row-index l.rows)))
