-- The parts of a long list that hold payloads, p elements each, one after the other. Assumes nothing.
use Rattle.std.specs.Prelude.{◌≡◌, ◌≢◌, List, [], ◌∷◌, ◌++◌, ℕ, zero, suc, ◌+◌, ◌*◌, ◌-◌, ◌<◌, ◌≤◌, length, take, drop}
use Rattle.std.proofs.Common.{sym, ap, ◌∙◌, append_assoc, suc-mul, mul-le-mul_right, zero-add, suc-add, arith, take_at, drop_at, take-take, take_all, drop-drop, length-take-le}
use Rattle.std.proofs.Math.Decide.{dec_lt}
use Rattle.std.proofs.Math.Seq.{paste, take-nil}
use Rattle.std.proofs.lemmas.List.Edits.{drop-paste}

-- a part ends where the next begins
pub part_fits : (i n p : ℕ) → i < n → i * p + p ≤ n * p
part_fits i n p h = rw suc-mul at (mul-le-mul_right p h)

-- an early part of a list, by what stands before its end
pub take-drop : (at m : ℕ) (l : List ℕ) → take m (drop at l) ≡ drop at (take (at + m) l)
take-drop zero m l = rw zero-add
take-drop (suc at) m [] = take-nil m ∙ sym (ap (drop (suc at)) (take-nil (suc at + m)))
take-drop (suc at) m (x ∷ l) = rw suc-add (take-drop at m l)

module _ (d : List ℕ) (i p : ℕ) (s : List ℕ) (hd : i * p + p ≤ length d) (hs : length s ≡ p) where
  -- after a part is written, it is what was written
  pub part_front : take p (drop (i * p) (paste d (i * p) s p)) ≡ s
  part_front =
      let all : take p s ≡ s = take_all p s (omega arith) in
      rw append_assoc (rw (drop_at (take (i * p) d) (take p s ++ drop (i * p + p) d) (i * p) (length-take-le (i * p) d (omega arith)), all) (take_at s (drop (i * p + p) d) p hs))

  -- and the other parts are as they were
  pub part_rest : (j : ℕ) → j ≢ i → take p (drop (j * p) (paste d (i * p) s p)) ≡ take p (drop (j * p) d)
  part_rest j other = go (dec_lt j i)
    where
      go : Dec (j < i) → take p (drop (j * p) (paste d (i * p) s p)) ≡ take p (drop (j * p) d)
      go (yes h) =
          let z = part_fits j i p h in
          let front : take (i * p) (paste d (i * p) s p) ≡ take (i * p) d = rw append_assoc (take_at (take (i * p) d) (take p s ++ drop (i * p + p) d) (i * p) (length-take-le (i * p) d (omega arith))) in
          take-drop (j * p) p (paste d (i * p) s p)
          ∙ ap (drop (j * p)) (sym (take-take (j * p + p) (i * p) (paste d (i * p) s p) z) ∙ ap (take (j * p + p)) front ∙ take-take (j * p + p) (i * p) d z)
          ∙ sym (take-drop (j * p) p d)
      go (no h) =
          let z : i * p + p ≤ j * p = part_fits i j p (omega arith) in
          let e : i * p + p + (j * p - (i * p + p)) ≡ j * p = omega arith in
          let split : (l : List ℕ) → drop (j * p) l ≡ drop (j * p - (i * p + p)) (drop (i * p + p) l) = λ l. sym (drop-drop (j * p - (i * p + p)) (i * p + p) l ∙ ap (λ k. drop k l) e) in
          ap (take p) (split (paste d (i * p) s p) ∙ ap (drop (j * p - (i * p + p))) (drop-paste d (i * p) s p (omega arith) (omega arith)) ∙ sym (split d))
