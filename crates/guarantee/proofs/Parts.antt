-- The parts of a long list that hold payloads, p elements each, one after the other.
use Rattle.std.specs.Prelude.{◌≡◌, refl, ◌≢◌, List, [], ◌∷◌, ◌++◌, ℕ, zero, suc, ◌+◌, ◌*◌, ◌≤◌, length, take, drop, replicate}
use Rattle.std.proofs.Common.{sym, ap, ◌∙◌}
use Rattle.std.proofs.Math.Seq.{paste}
use Rattle.xor.specs.Xor.{padded}
use Rattle.xor.specs.Parts.{part_front, part_rest}
use Rattle.window.specs.Store.{payload_in}
use Rattle.guarantee.specs.Lengths.{Clean}
use Rattle.guarantee.proofs.Lengths.{length-padded}

-- the payload at an index has p bytes
pub length_part : (p : ℕ) (part : List ℕ) (n i : ℕ) → length (payload_in p part n i) ≡ p
length_part p part n i = length-padded p (take n (drop (i * p) part))

-- it is known by the first p bytes there
pub by_front : (p n m : ℕ) (l : List ℕ) → take p (take n l ++ replicate m 0) ≡ take p (take n (take p l) ++ replicate m 0)
by_front zero n m l = refl
by_front (suc p) zero m l = refl
by_front (suc p) (suc n) m [] = refl
by_front (suc p) (suc n) m (b ∷ l) = ap (λ k. b ∷ k) (by_front p n m l)

module _ (d : List ℕ) (i p : ℕ) (s : List ℕ) (hd : i * p + p ≤ length d) (hs : length s ≡ p) where
  -- after a part is written, the payload of n bytes there is what was written, if that is of n bytes
  pub part_same : (n : ℕ) → Clean p n s → payload_in p (paste d (i * p) s p) n i ≡ s
  part_same n e = by_front p n p (drop (i * p) (paste d (i * p) s p)) ∙ ap (λ l. padded p (take n l)) (part_front d i p s hd hs) ∙ e

  -- and the other parts are as they were
  pub part_other : (n j : ℕ) → j ≢ i → payload_in p (paste d (i * p) s p) n j ≡ payload_in p d n j
  part_other n j other = by_front p n p (drop (j * p) (paste d (i * p) s p)) ∙ ap (λ l. padded p (take n l)) (part_rest d i p s hd hs j other) ∙ sym (by_front p n p (drop (j * p) d))
