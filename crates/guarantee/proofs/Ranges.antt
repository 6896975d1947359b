-- Facts about the lists of sequence's Lists.antt: membership, counting, and that different things need as many places.
use Rattle.std.specs.Prelude.{◌≡◌, refl, ◌≢◌, ◌⊎◌, Bool, true, false, not, cond, ◌||◌, ℕ, zero, suc, ◌+◌, ◌<◌, ◌≤◌, length, eqb}
use Rattle.std.proofs.Common.{sym, ap, ◌∙◌, inl, inr, ⊎_elim, true≢false, arith, eq-eqb}
use Rattle.std.proofs.lemmas.Bool.{false≢true}
use mathlib.Core.List.Memᴰ
use mathlib.Core.List.{List, [], ◌∷◌, ◌++◌, Memᴰ}
use Rattle.std.proofs.Math.Decide.{ℕ_discrete}
use Rattle.sequence.specs.Lists.{up_to, all, any, keep, count, head_or}
use Rattle.sequence.proofs.Lists.{count-append, or_split}
use Rattle.sequence.proofs.Lists.{and_split as both}
use Rattle.peel.specs.Group as Peel
use Rattle.guarantee.specs.Ranges.{Out}

-- ---- tests
-- a test is true or false
pub decide : (b : Bool) → (b ≡ true) ⊎ (b ≡ false)
decide true = inl refl
decide false = inr refl

-- ---- membership
-- the elements of up_to n are below n
pub up_to-lt : (n i : ℕ) → Memᴰ i (up_to n) → i < n
up_to-lt zero i m = absurd (Memᴰ.not-nil m)
up_to-lt (suc n) i m =
    ⊎_elim (λ a. let h = up_to-lt n i a in omega arith) (λ b. let e = Memᴰ.eq_of_singleton b in omega arith) (Memᴰ.append_cases (up_to n) m)

-- and all that are
pub up_to-mem : (n i : ℕ) → i < n → Memᴰ i (up_to n)
up_to-mem zero i h = absurd (omega arith)
up_to-mem (suc n) i h = go (ℕ_discrete i n) (up_to-mem n i)
  where
    go : Dec (i ≡ n) → (i < n → Memᴰ i (up_to n)) → Memᴰ i (up_to (suc n))
    go (yes e) ih = Memᴰ.append_right (up_to n) (Memᴰ.head e)
    go (no e) ih = Memᴰ.append_left (n ∷ []) (ih (omega arith))

module _ (test : ℕ → Bool) where
  -- an element that a test holds of is kept
  pub keep-mem : (l : List ℕ) (i : ℕ) → test i ≡ true → Memᴰ i l → Memᴰ i (keep test l)
  keep-mem [] i e m = absurd (Memᴰ.not-nil m)
  keep-mem (j ∷ l) i e m = go (test j) refl m (keep-mem l i e)
    where
      go : (b : Bool) → test j ≡ b → Memᴰ i (j ∷ l) → (Memᴰ i l → Memᴰ i (keep test l)) → Memᴰ i (cond b (j ∷ keep test l) (keep test l))
      go true q (Memᴰ.head z) ih = Memᴰ.head z
      go true q (Memᴰ.tail n) ih = Memᴰ.tail (ih n)
      go false q (Memᴰ.head z) ih = absurd (true≢false (sym e ∙ ap test z ∙ q))
      go false q (Memᴰ.tail n) ih = ih n

  -- and what is kept is an element that it holds of
  pub mem-keep : (l : List ℕ) (i : ℕ) → Memᴰ i (keep test l) → Memᴰ i l × (test i ≡ true)
  mem-keep [] i m = absurd (Memᴰ.not-nil m)
  mem-keep (j ∷ l) i m = go (test j) refl m (mem-keep l i)
    where
      go : (b : Bool) → test j ≡ b → Memᴰ i (cond b (j ∷ keep test l) (keep test l)) → (Memᴰ i (keep test l) → Memᴰ i l × (test i ≡ true)) → Memᴰ i (j ∷ l) × (test i ≡ true)
      go true q (Memᴰ.head z) ih = (Memᴰ.head z, ap test z ∙ q)
      go true q (Memᴰ.tail n) ih = let h = ih n in (Memᴰ.tail h.0, h.1)
      go false q n ih = let h = ih n in (Memᴰ.tail h.0, h.1)

  -- a test that holds of all of a list holds of each element
  pub all_of : (l : List ℕ) → all test l ≡ true → (i : ℕ) → Memᴰ i l → test i ≡ true
  all_of [] e i m = absurd (Memᴰ.not-nil m)
  all_of (j ∷ l) e i (Memᴰ.head q) = rw q (both (test j) (all test l) e).0
  all_of (j ∷ l) e i (Memᴰ.tail m) = all_of l (both (test j) (all test l) e).1 i m

  -- and one that holds of each element holds of all
  pub of_all : (l : List ℕ) → ((i : ℕ) → Memᴰ i l → test i ≡ true) → all test l ≡ true
  of_all [] h = refl
  of_all (j ∷ l) h = rw (h j (Memᴰ.head refl)) (of_all l (λ i m. h i (Memᴰ.tail m)))

  -- one that holds of none of a list holds of no element
  pub any_none : (l : List ℕ) → any test l ≡ false → (i : ℕ) → Memᴰ i l → test i ≡ false
  any_none [] e i m = absurd (Memᴰ.not-nil m)
  any_none (j ∷ l) e i (Memᴰ.head q) = rw q (or_split (test j) (any test l) e).0
  any_none (j ∷ l) e i (Memᴰ.tail m) = any_none l (or_split (test j) (any test l) e).1 i m

  -- one that holds of all of a list holds of some element, if there is one
  pub all_any : (l : List ℕ) → 0 < length l → all test l ≡ true → any test l ≡ true
  all_any [] h e = absurd (omega arith)
  all_any (j ∷ l) h e = rw (both (test j) (all test l) e).0

  -- a test that holds of some element
  pub any_some : (l : List ℕ) → any test l ≡ true → (i : ℕ) × Memᴰ i l × (test i ≡ true)
  any_some [] e = absurd (false≢true e)
  any_some (j ∷ l) e = go (test j) refl (any_some l) e
    where
      go : (b : Bool) → test j ≡ b → (any test l ≡ true → (i : ℕ) × Memᴰ i l × (test i ≡ true)) → (b || any test l) ≡ true
          → (i : ℕ) × Memᴰ i (j ∷ l) × (test i ≡ true)
      go true q ih h = (j, Memᴰ.head refl, q)
      go false q ih h = let w = ih h in (w.0, Memᴰ.tail w.1, w.2)

  -- ---- counting

  -- one more element at the end
  count-snoc : (l : List ℕ) (i : ℕ) → count test (l ++ (i ∷ [])) ≡ cond (test i) (suc (count test l)) (count test l)
  count-snoc l i = count-append test l (i ∷ []) ∙ go (test i)
    where
      go : (b : Bool) → count test l + length (cond b (i ∷ []) []) ≡ cond b (suc (count test l)) (count test l)
      go true = omega arith
      go false = omega arith

  -- the count of the theory is the length of what is kept
  pub count-keep : (l : List ℕ) → Peel.count test l ≡ count test l
  count-keep [] = refl
  count-keep (j ∷ l) = go (test j) (count-keep l)
    where
      go : (b : Bool) → Peel.count test l ≡ length (keep test l) → Peel.tally b (Peel.count test l) ≡ length (cond b (j ∷ keep test l) (keep test l))
      go true ih = ap suc ih
      go false ih = ih

  -- what a test holds of and what it does not hold of are the whole list
  pub count-not : (l : List ℕ) → count test l + count (λ i. not (test i)) l ≡ length l
  count-not [] = refl
  count-not (j ∷ l) = go (test j) (count-not l)
    where
      go : (b : Bool) → count test l + count (λ i. not (test i)) l ≡ length l
          → length (cond b (j ∷ keep test l) (keep test l)) + length (cond (not b) (j ∷ keep (λ i. not (test i)) l) (keep (λ i. not (test i)) l)) ≡ suc (length l)
      go true ih = omega arith
      go false ih = omega arith

  -- the first of those that a test holds of, if there is one
  pub first-kept : (other : ℕ) (l : List ℕ) → 0 < count test l → Memᴰ (head_or other (keep test l)) l × (test (head_or other (keep test l)) ≡ true)
  first-kept other [] h = absurd (omega arith)
  first-kept other (j ∷ l) h = go (test j) refl (first-kept other l) h
    where
      go : (b : Bool) → test j ≡ b → (0 < count test l → Memᴰ (head_or other (keep test l)) l × (test (head_or other (keep test l)) ≡ true))
          → 0 < length (cond b (j ∷ keep test l) (keep test l))
          → Memᴰ (head_or other (cond b (j ∷ keep test l) (keep test l))) (j ∷ l) × (test (head_or other (cond b (j ∷ keep test l) (keep test l))) ≡ true)
      go true q ih h' = (Memᴰ.head refl, q)
      go false q ih h' = let w = ih h' in (Memᴰ.tail w.0, w.1)

  -- a test that holds of nothing keeps nothing
  pub keep-nothing : (l : List ℕ) → ((i : ℕ) → Memᴰ i l → test i ≡ false) → keep test l ≡ []
  keep-nothing [] h = refl
  keep-nothing (j ∷ l) h = rw (h j (Memᴰ.head refl)) (keep-nothing l (λ i m. h i (Memᴰ.tail m)))

  -- so its count is 0
  pub count-zero : (l : List ℕ) → ((i : ℕ) → Memᴰ i l → test i ≡ false) → count test l ≡ 0
  count-zero l h = ap length (keep-nothing l h)

module _ (f h : ℕ → Bool) where
  -- two tests that agree on a list keep the same of it
  pub keep_ext : (l : List ℕ) → ((i : ℕ) → Memᴰ i l → f i ≡ h i) → keep f l ≡ keep h l
  keep_ext [] e = refl
  keep_ext (j ∷ l) e = rw (e j (Memᴰ.head refl), keep_ext l (λ i m. e i (Memᴰ.tail m)))

  -- two tests that agree but at one number: one more below n
  pub count_raise : (n r : ℕ) → r < n → f r ≡ false → h r ≡ true → ((i : ℕ) → i ≢ r → f i ≡ h i) → count h (up_to n) ≡ suc (count f (up_to n))
  count_raise zero r l a b e = absurd (omega arith)
  count_raise (suc n) r l a b e = rw (count-snoc h (up_to n) n, count-snoc f (up_to n) n) (go (ℕ_discrete r n) (count_raise n r))
    where
      go : Dec (r ≡ n) → (r < n → f r ≡ false → h r ≡ true → ((i : ℕ) → i ≢ r → f i ≡ h i) → count h (up_to n) ≡ suc (count f (up_to n)))
          → cond (h n) (suc (count h (up_to n))) (count h (up_to n)) ≡ suc (cond (f n) (suc (count f (up_to n))) (count f (up_to n)))
      go (yes q) ih = rw (ap h (sym q) ∙ b, ap f (sym q) ∙ a, keep_ext (up_to n) (λ i m. let z = up_to-lt n i m in e i (λ c. omega arith)))
      go (no q) ih = rw (e n (λ c. q (sym c)), ih (omega arith) a b e) (same (h n))
        where
          same : (c : Bool) → cond c (suc (suc (count f (up_to n)))) (suc (count f (up_to n))) ≡ suc (cond c (suc (count f (up_to n))) (count f (up_to n)))
          same true = refl
          same false = refl

  -- of any list: the first test holds of no more than the second does and the places of that number
  pub count_lower : (i : ℕ) (l : List ℕ) → ((j : ℕ) → j ≢ i → f j ≡ h j) → count f l ≤ count h l + count (eqb i) l
  count_lower i [] e = omega arith
  count_lower i (j ∷ l) e = go (f j) (h j) (eqb i j) refl refl refl (count_lower i l e)
    where
      go : (a b c : Bool) → f j ≡ a → h j ≡ b → eqb i j ≡ c → count f l ≤ count h l + count (eqb i) l
          → length (cond a (j ∷ keep f l) (keep f l)) ≤ length (cond b (j ∷ keep h l) (keep h l)) + length (cond c (j ∷ keep (eqb i) l) (keep (eqb i) l))
      go false b c p q r ih = grown b c ih
        where
          grown : (b c : Bool) → count f l ≤ count h l + count (eqb i) l → count f l ≤ length (cond b (j ∷ keep h l) (keep h l)) + length (cond c (j ∷ keep (eqb i) l) (keep (eqb i) l))
          grown false false z = z
          grown false true z = omega arith
          grown true false z = omega arith
          grown true true z = omega arith
      go true true c p q r ih = grown c ih
        where
          grown : (c : Bool) → count f l ≤ count h l + count (eqb i) l → suc (count f l) ≤ suc (count h l) + length (cond c (j ∷ keep (eqb i) l) (keep (eqb i) l))
          grown false z = omega arith
          grown true z = omega arith
      go true false true p q r ih = omega arith
      go true false false p q r ih = absurd (true≢false (sym p ∙ e j (λ z. true≢false (sym (eq-eqb i j (sym z)) ∙ r)) ∙ q))

-- an element can be taken out
pub take_out : {A : Type 0} {x : A} {l : List A} → Memᴰ x l → Out x l
take_out {A} {x} (Memᴰ.head {x = y} {xs = l} e) = record {
  rest = l;
  shorter = refl;
  others = λ z n m. ⊎_elim (λ q. absurd (n (q ∙ sym e))) (λ k. k) (Memᴰ.cases_cons m);
}
take_out {A} {x} (Memᴰ.tail {x = y} {xs = l} m) =
    let o : Out x l = take_out m in
    record {
      rest = y ∷ o.rest;
      shorter = ap suc o.shorter;
      others = λ z n k. ⊎_elim (λ q. Memᴰ.head q) (λ w. Memᴰ.tail (o.others z n w)) (Memᴰ.cases_cons k);
    }

-- numbers below n with different keys are no more than a list that has all the keys
pub pigeon : {A : Type 0} (key : ℕ → A) (test : ℕ → Bool) (n : ℕ) (l : List A)
    → ((r : ℕ) → r < n → test r ≡ true → Memᴰ (key r) l)
    → ((q r : ℕ) → q < n → r < n → test q ≡ true → test r ≡ true → key q ≡ key r → q ≡ r)
    → count test (up_to n) ≤ length l
pigeon key test zero l has apart = omega arith
pigeon {A} key test (suc n) l has apart = rw (count-snoc test (up_to n) n) (go (test n) refl (pigeon key test n))
  where
    go : (b : Bool) → test n ≡ b
        → ((l : List A) → ((r : ℕ) → r < n → test r ≡ true → Memᴰ (key r) l)
        → ((q r : ℕ) → q < n → r < n → test q ≡ true → test r ≡ true → key q ≡ key r → q ≡ r) → count test (up_to n) ≤ length l)
        → cond b (suc (count test (up_to n))) (count test (up_to n)) ≤ length l
    go false e ih = ih l (λ r h. has r (omega arith)) (λ q r hq hr. apart q r (omega arith) (omega arith))
    go true e ih =
        let o : Out (key n) l = take_out (has n (omega arith) e) in
        let h = ih o.rest (λ r h t. o.others (key r) (λ z. let c = apart r n (omega arith) (omega arith) t e z in omega arith) (has r (omega arith) t))
        (λ q r hq hr. apart q r (omega arith) (omega arith)) in
        omega (arith, o.shorter)
