-- A part whose first n elements move down by m, block by block. Assumes nothing.
use Rattle.std.proofs.Common.{◌≡◌, sym, ap, ap₂, ◌∙◌, List, ◌++◌, ℕ, ◌+◌, ◌-◌, ◌≤◌, arith, length, take, drop, replicate, length-append, length-take, length-drop, length-take-le, take_all, take_at, drop_at, take-add, take-take, drop-drop, append_assoc}
use borrow.Rule.Slice.PartMut.{put_mid}
use Rattle.std.proofs.lemmas.List.{length-replicate, take-append-drop, drop-take}
use Rattle.std.proofs.lemmas.Slice.{put_mid-paste}
use Rattle.std.proofs.Math.Seq.{paste}
use Rattle.moving.specs.Down.{down}

-- the first `at` elements have moved down
abbrev pub slid : {A : Type 0} (m at : ℕ) → List A → List A
slid m at part = take at (drop m part) ++ drop at part

-- the same as one copy
pub slid-paste : {A : Type 0} (m at : ℕ) (part : List A) → slid m at part ≡ paste part 0 (drop m part) at
slid-paste m at part = let e : at ≡ 0 + at = omega arith in ap (λ (k : ℕ). take at (drop m part) ++ drop k part) e

module _ {A : Type 0} (m : ℕ) (part : List A) where
  module _ (at : ℕ) (h : at + m ≤ length part) where
    front_long : length (take at (drop m part)) ≡ at
    front_long = length-take-le at (drop m part) (simp length-drop (omega arith))

    -- what has not moved is as it was
    rest : (j : ℕ) → drop (at + j) (slid m at part) ≡ drop (at + j) part
    rest j =
        sym (drop-drop j at (slid m at part))
        ∙ ap (drop j) (drop_at (take at (drop m part)) (drop at part) at front_long)
        ∙ drop-drop j at part

    slid-front : take at (slid m at part) ≡ take at (drop m part)
    slid-front = take_at (take at (drop m part)) (drop at part) at front_long

    pub slid-long : length (slid m at part) ≡ length part
    slid-long = length-append (take at (drop m part)) (drop at part) ∙ (omega (arith, front_long, length-drop at part))

    -- a block more
    pub slid-more : (size : ℕ) → paste (slid m at part) at (drop (at + m) (slid m at part)) size ≡ slid m (at + size) part
    slid-more size =
        let turn : at + m ≡ m + at = omega arith in
        let e : drop (at + m) (slid m at part) ≡ drop at (drop m part) = rest m ∙ ap (λ (k : ℕ). drop k part) turn ∙ sym (drop-drop at m part) in
        ap₂ (λ (a b : List A). a ++ b) (ap₂ (λ (a b : List A). a ++ b) slid-front (ap (take size) e) ∙ sym (take-add at size (drop m part))) (rest size)

  -- and the same one behind them
  pub slid-end : (zero : A) (n : ℕ) → m ≤ n → n ≤ length part → paste (slid m (n - m) part) (n - m) (replicate m zero) m ≡ down zero m n part
  slid-end zero n l h =
      let fits : n - m + m ≤ length part = omega arith in
      let all : n - m + m ≡ n = omega arith in
      let zeros = length-replicate m zero in
      ap₂ (λ (a b : List A). a ++ b)
      (ap₂ (λ (a b : List A). a ++ b) (slid-front (n - m) fits) (take_all m (replicate m zero) (omega arith)))
      (rest (n - m) fits m ∙ ap (λ (k : ℕ). drop k part) all)

-- a part that was slid and then filled from there up to n has moved down
pub filled : {A : Type 0} (m n : ℕ) (part slid-part ys : List A) (zero : A) → m ≤ n → n ≤ length part → slid-part ≡ paste part 0 (drop m part) (n - m)
    → ys ≡ replicate (length (take (n - (n - m)) (drop (n - m) slid-part))) zero → put_mid (n - m) (n - (n - m)) slid-part ys ≡ down zero m n part
filled m n part s ys zero l h e f =
    let left : ℕ = n - m in
    let p = e ∙ sym (slid-paste m left part) in
    let size = ap length p ∙ slid-long m part left (omega arith) in
    let all : n - left ≡ m = omega arith in
    let long : length (take (n - left) (drop left s)) ≡ m = simp (length-take, length-drop) (omega (arith, size)) in
    put_mid-paste left (n - left) s ys (replicate m zero) m (f ∙ ap (λ (k : ℕ). replicate k zero) long) (sym all) (sym (length-replicate m zero))
    ∙ ap (λ (q : List _). paste q left (replicate m zero) m) p ∙ slid-end m part zero n l h

-- a part of the front that was overwritten with a part of the back, and the two joined again
pub joined : {A : Type 0} (p ys : List A) (at size m k : ℕ) → k ≡ size → size ≤ m → ys ≡ take size (drop (at + m) p) → put_mid at k (take (at + m) p) ys ++ drop (at + m) p ≡ paste p at (drop (at + m) p) size
joined {A} p ys at size m k e h y =
    let f : take at (take (at + m) p) ≡ take at p = take-take at (at + m) p (omega arith) in
    let split : size + (m - size) ≡ m = omega arith in
    let past : at + size + (m - size) ≡ at + m = omega arith in
    let rest : List A = drop (at + size) p in
    let d : drop size (drop at (take (at + m) p)) ≡ take (m - size) rest =
    ap (drop size) (drop-take at m p) ∙ ap (λ (n : ℕ). drop size (take n (drop at p))) (sym split) ∙ drop-take size (m - size) (drop at p) ∙ ap (take (m - size)) (drop-drop size at p) in
    let b : drop (at + m) p ≡ drop (m - size) rest = ap (λ (n : ℕ). drop n p) (sym past) ∙ sym (drop-drop (m - size) (at + size) p) in
    let end : take (m - size) rest ++ drop (at + m) p ≡ rest = ap (λ (l : List A). take (m - size) rest ++ l) b ∙ take-append-drop (m - size) rest in
    ap (λ (n : ℕ). (take at (take (at + m) p) ++ (ys ++ drop n (drop at (take (at + m) p)))) ++ drop (at + m) p) e
    ∙ ap₂ (λ (u v : List A). (u ++ (ys ++ v)) ++ drop (at + m) p) f d
    ∙ append_assoc (take at p) (ys ++ take (m - size) rest) (drop (at + m) p)
    ∙ ap (λ (l : List A). take at p ++ l) (append_assoc ys (take (m - size) rest) (drop (at + m) p))
    ∙ ap₂ (λ (u v : List A). take at p ++ (u ++ v)) y end
    ∙ sym (append_assoc (take at p) (take size (drop (at + m) p)) rest)
