use Rattle.std.proofs.Common.{◌≡◌}
use Rattle.xor.specs.Xor.{xor_at}
use Rattle.xor.proofs.xor_into.Given as goal

abbrev pub invariant-loop-i : goal.invariant-loop-i
invariant-loop-i l = l.dst ≡ xor_at l.initial.dst 0 l.src l.i
