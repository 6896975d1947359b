use Rattle.std.proofs.Common.{◌≡◌, not, eqb}
use Rattle.std.proofs.Math.Seq.{paste}
use Rattle.xor.proofs.Turn.{parts, kept}
use Rattle.xor.proofs.xor_parts.Given as goal

abbrev pub invariant-loop-i : goal.invariant-loop-i
invariant-loop-i g l = l.dst ≡ paste l.initial.dst 0 (parts l.src l.fn.places (kept (not (eqb g.row.KEEP 0)) l.initial.dst)) l.i
