use Rattle.std.proofs.Common.{◌≡◌, true, map, ℕ, ◌<◌, get_or, take}
use Rattle.std.specs.Int.Bits.{bit_xor}
use Rattle.xor.specs.Xor.{xor_all}
use Rattle.calls.specs.Content.{longest}
use Rattle.group.proofs.measure.Given as goal

abbrev pub invariant-loop-row : goal.invariant-loop-row
invariant-loop-row l =
    (l.all ≡ bit_xor 0 (xor_all (map (λ k. get_or l.lengths k 0) (take l.row-index l.rows))))
    × (l.most ≡ longest (map (λ k. get_or l.lengths k 0) (take l.row-index l.rows)))
    × (l.full ≡ true → (k : ℕ) → k < l.row-index → get_or l.lengths (get_or l.rows k 0) 0 ≡ l.p)
