-- Sums over evenly spaced packets, of which some may not have come yet: over any operation that has a zero.
use Rattle.std.specs.Prelude.{◌≡◌, refl, Bool, true, false, cond, ℕ, zero, suc, ◌+◌, ◌*◌, ◌≤◌, ◌<◌, ltb}
use Rattle.std.proofs.Common.{sym, ◌∙◌, ap₂, ⊎_elim, eq-or-lt_of_le, le_of_suc-le-suc, mul-le-mul_right, arith, lt-ltb, le-ltb, ltb-true, ltb-false}

module _ {X : Type 0} (◌⊕◌ : X → X → X) (o : X) where
  infixl 60 ◌⊕◌
  -- the sum of x over n packets from s on, each t after the one before
  abbrev pub over : (ℕ → X) → ℕ → ℕ → ℕ → X
  over x s t zero = o
  over x s t (suc n) = over x s t n ⊕ x (s + n * t)

  -- the packets before the i-th; the others count as nothing
  abbrev pub seen : (ℕ → X) → ℕ → ℕ → X
  seen x i j = cond (ltb j i) (x j) o

  -- sums of equal members are equal
  pub over-same : (x y : ℕ → X) (s t n : ℕ) → ((j : ℕ) → j < n → x (s + j * t) ≡ y (s + j * t)) → over x s t n ≡ over y s t n
  over-same x y s t zero h = refl
  over-same x y s t (suc n) h = ap₂ ◌⊕◌ (over-same x y s t n (λ j l. h j (omega arith))) (h n (omega arith))

  module _ (x : ℕ → X) (i : ℕ) where
    seen-yes : (j : ℕ) → j < i → seen x i j ≡ x j
    seen-yes j h = rw (lt-ltb j i h)

    seen_no : (j : ℕ) → i ≤ j → seen x i j ≡ o
    seen_no j h = rw (le-ltb j i h)

  -- a packet that is no other one is seen before and after it, or neither
  seen_other : (x : ℕ → X) (i j : ℕ) → ¬ (j ≡ i) → seen x (suc i) j ≡ seen x i j
  seen_other x i j h = go (ltb j i) refl
    where
      go : (b : Bool) → ltb j i ≡ b → seen x (suc i) j ≡ seen x i j
      go true e = let l = ltb-true j i e in seen-yes x (suc i) j (omega arith) ∙ sym (seen-yes x i j l)
      go false e = let l = ltb-false j i e in seen_no x (suc i) j (omega arith) ∙ sym (seen_no x i j l)

  -- once all members have come, the sum is whole
  pub seen_all : (x : ℕ → X) (i s t n : ℕ) → ((j : ℕ) → j < n → s + j * t < i) → over (seen x i) s t n ≡ over x s t n
  seen_all x i s t n h = over-same (seen x i) x s t n (λ j l. seen-yes x i (s + j * t) (h j l))

  -- a packet that is no member changes nothing
  pub seen-miss : (x : ℕ → X) (i s t n : ℕ) → ((j : ℕ) → j < n → ¬ (s + j * t ≡ i)) → over (seen x (suc i)) s t n ≡ over (seen x i) s t n
  seen-miss x i s t n h = over-same (seen x (suc i)) (seen x i) s t n (λ j l. seen_other x i (s + j * t) (h j l))

  -- what is asked of the operation, on the values that are good: exclusive-or of payloads of one length has it, and so has the longest of lengths
  pub record Laws (G : X → Type 0) : Type 0 where
    pub nothing : G o
    pub closed : (u v : X) → G u → G v → G (u ⊕ v)
    pub left : (v : X) → G v → o ⊕ v ≡ v
    pub right : (v : X) → G v → v ⊕ o ≡ v

  module _ (G : X → Type 0) (laws : Laws G) (x : ℕ → X) (good : (j : ℕ) → G (x j)) (i : ℕ) where
    seen-good : (j : ℕ) → G (seen x i j)
    seen-good j = go (ltb j i)
      where
        go : (b : Bool) → G (cond b (x j) o)
        go true = good j
        go false = laws.nothing

    over-good : (s t n : ℕ) → G (over (seen x i) s t n)
    over-good s t zero = laws.nothing
    over-good s t (suc n) = laws.closed (over (seen x i) s t n) (seen x i (s + n * t)) (over-good s t n) (seen-good (s + n * t))

    -- before the first member has come, the sum is nothing
    pub seen_none : (s t n : ℕ) → i ≤ s → over (seen x i) s t n ≡ o
    seen_none s t zero h = refl
    seen_none s t (suc n) h = ap₂ ◌⊕◌ (seen_none s t n h) (seen_no x i (s + n * t) (omega arith)) ∙ laws.left o laws.nothing

    -- a member is added
    pub seen_hit : (s t n j : ℕ) → 0 < t → j < n → s + j * t ≡ i → over (seen x (suc i)) s t n ≡ over (seen x i) s t n ⊕ x i
    seen_hit s t zero j p l e = absurd (omega arith)
    seen_hit s t (suc n) j p l e = ⊎_elim last (λ h. earlier h (seen_hit s t n j p h e)) (eq-or-lt_of_le (le_of_suc-le-suc l))
      where
        last : j ≡ n → over (seen x (suc i)) s t n ⊕ seen x (suc i) (s + n * t) ≡ over (seen x i) s t n ⊕ seen x i (s + n * t) ⊕ x i
        last q =
            let f : s + n * t ≡ i = rw (← q) e in
            rw (
              f,
              seen-yes x (suc i) i (omega arith),
              seen_no x i i (omega arith),
              laws.right (over (seen x i) s t n) (over-good s t n),
              seen-miss x i s t n (λ k h m. let g = mul-le-mul_right t h in omega arith),
            )

        earlier : j < n → over (seen x (suc i)) s t n ≡ over (seen x i) s t n ⊕ x i → over (seen x (suc i)) s t n ⊕ seen x (suc i) (s + n * t) ≡ over (seen x i) s t n ⊕ seen x i (s + n * t) ⊕ x i
        earlier h ih =
            let g = mul-le-mul_right t h in
            rw (ih, seen_no x (suc i) (s + n * t) (omega arith), seen_no x i (s + n * t) (omega arith), laws.right (over (seen x i) s t n ⊕ x i) (laws.closed _ _ (over-good s t n) (good i)), laws.right (over (seen x i) s t n) (over-good s t n))
