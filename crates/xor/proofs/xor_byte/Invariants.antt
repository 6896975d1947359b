use Rattle.std.proofs.Common.{◌≡◌, take}
use Rattle.xor.specs.Xor.{xor_byte}
use Rattle.xor.proofs.xor_byte.Given as goal

abbrev pub invariant-loop-k : goal.invariant-loop-k
invariant-loop-k g l = l.sum ≡ xor_byte l.src (take l.k l.fn.places) l.i l.byte
