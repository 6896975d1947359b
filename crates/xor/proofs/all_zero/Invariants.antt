use Rattle.std.proofs.Common.{◌≡◌, take, eqb}
use Rattle.sequence.specs.Lists.{all}
use Rattle.xor.proofs.all_zero.Given as goal

abbrev pub invariant-loop-byte : goal.invariant-loop-byte
invariant-loop-byte l = l.is ≡ all (λ b. eqb b 0) (take l.byte-index l.a)
