-- Lists of positions: ranges, and what a test holds of.
use Rattle.std.specs.Prelude.{◌≡◌, ℕ, zero, suc, ◌+◌, ◌<◌, ◌≤◌, Bool, true, false, cond, ◌&&◌, ◌||◌, List, [], ◌∷◌, ◌++◌, map, length, nat_lt, refl}
use Rattle.std.proofs.Common.{sym, ap, ◌∙◌, ⊎_elim, eq-or-lt_of_le, le_of_suc-le-suc, add-one, arith, length-append, lt-ltb}
use Rattle.std.proofs.Math.Bool.{and_assoc, and-true, or_assoc, or-false}
use Rattle.sequence.specs.Lists.{up_to, all, any, keep, count}

-- ---- laws of tests
pub and_split : (a b : Bool) → (a && b) ≡ true → (a ≡ true) × (b ≡ true)
and_split true b e = (refl, e)
and_split false b e = absurd (let z : ◌≡◌ {A = ℕ} 0 1 = cc in omega arith)

pub or_split : (a b : Bool) → (a || b) ≡ false → (a ≡ false) × (b ≡ false)
or_split false b e = (refl, e)
or_split true b e = absurd (let z : ◌≡◌ {A = ℕ} 0 1 = cc in omega arith)

-- ---- laws: of two lists, and of one number more
pub map-append : (f : ℕ → ℕ) (l m : List ℕ) → map f (l ++ m) ≡ map f l ++ map f m
map-append f [] m = refl
map-append f (i ∷ l) m = ap (λ (k : List ℕ). f i ∷ k) (map-append f l m)

-- there are n numbers below n
pub length-up_to : (n : ℕ) → length (up_to n) ≡ n
length-up_to zero = refl
length-up_to (suc n) = length-append (up_to n) (n ∷ []) ∙ ap (λ (k : ℕ). k + 1) (length-up_to n) ∙ add-one n

-- what holds of each number below n, and of n, holds of each below suc n
below_suc : (P : ℕ → Type 0) (n : ℕ) → ((i : ℕ) → i < n → P i) → P n → (i : ℕ) → i < suc n → P i
below_suc P n h p i l = ⊎_elim (λ e. rw e p) (h i) (eq-or-lt_of_le (le_of_suc-le-suc l))

-- two maps that agree below n
pub map_same : (f g : ℕ → ℕ) (n : ℕ) → ((i : ℕ) → i < n → f i ≡ g i) → map f (up_to n) ≡ map g (up_to n)
map_same f g zero h = refl
map_same f g (suc n) h = rw (map-append f (up_to n) (n ∷ []), map-append g (up_to n) (n ∷ []), map_same f g n (λ i l. h i (omega arith)), h n (omega arith))

module _ (test : ℕ → Bool) where
  pub all_append : (l m : List ℕ) → all test (l ++ m) ≡ (all test l && all test m)
  all_append [] m = refl
  all_append (i ∷ l) m = rw (all_append l m) (sym (and_assoc (test i) (all test l) (all test m)))

  pub any_append : (l m : List ℕ) → any test (l ++ m) ≡ (any test l || any test m)
  any_append [] m = refl
  any_append (i ∷ l) m = rw (any_append l m) (sym (or_assoc (test i) (any test l) (any test m)))

  keep_one : (i : ℕ) (t : Bool) (l m : List ℕ) → cond t (i ∷ (l ++ m)) (l ++ m) ≡ cond t (i ∷ l) l ++ m
  keep_one i true l m = refl
  keep_one i false l m = refl

  pub keep_append : (l m : List ℕ) → keep test (l ++ m) ≡ keep test l ++ keep test m
  keep_append [] m = refl
  keep_append (i ∷ l) m = rw (keep_append l m) (keep_one i (test i) (keep test l) (keep test m))

  pub count-append : (l m : List ℕ) → count test (l ++ m) ≡ count test l + count test m
  count-append l m = ap length (keep_append l m) ∙ length-append (keep test l) (keep test m)

  count-one : (i : ℕ) (t : Bool) → length (cond t (i ∷ []) []) ≡ cond t 1 0
  count-one i true = refl
  count-one i false = refl

  all-suc : (n : ℕ) → all test (up_to (suc n)) ≡ (all test (up_to n) && test n)
  all-suc n = all_append (up_to n) (n ∷ []) ∙ ap (λ (t : Bool). all test (up_to n) && t) (and-true (test n))

  any-suc : (n : ℕ) → any test (up_to (suc n)) ≡ (any test (up_to n) || test n)
  any-suc n = any_append (up_to n) (n ∷ []) ∙ ap (λ (t : Bool). any test (up_to n) || t) (or-false (test n))

  pub all_more : (n : ℕ) → all test (up_to (n + 1)) ≡ (all test (up_to n) && test n)
  all_more n = rw add-one (all-suc n)

  pub any-more : (n : ℕ) → any test (up_to (n + 1)) ≡ (any test (up_to n) || test n)
  any-more n = rw add-one (any-suc n)

  pub count-more : (n : ℕ) → count test (up_to (n + 1)) ≡ count test (up_to n) + cond (test n) 1 0
  count-more n = rw add-one (count-append (up_to n) (n ∷ []) ∙ ap (λ (k : ℕ). count test (up_to n) + k) (count-one n (test n)))

  -- a count is at most what is counted
  count-cond : (i : ℕ) (t : Bool) (l : List ℕ) (m : ℕ) → length l ≤ m → length (cond t (i ∷ l) l) ≤ suc m
  count-cond i true l m h = omega arith
  count-cond i false l m h = omega arith

  pub count-le : (l : List ℕ) → count test l ≤ length l
  count-le [] = omega arith
  count-le (i ∷ l) = count-cond i (test i) (keep test l) (length l) (count-le l)

  -- a test holds of some element where its count is above 0
  any-one : (i : ℕ) (t b : Bool) (l : List ℕ) → b ≡ nat_lt 0 (length l) → (t || b) ≡ nat_lt 0 (length (cond t (i ∷ l) l))
  any-one i true b l e = sym (lt-ltb 0 (length (i ∷ l)) (omega arith))
  any-one i false b l e = e

  pub any-count : (l : List ℕ) → any test l ≡ nat_lt 0 (count test l)
  any-count [] = refl
  any-count (i ∷ l) = any-one i (test i) (any test l) (keep test l) (any-count l)

  -- ---- laws: of mapped lists
  pub all_map : (f : ℕ → ℕ) (l : List ℕ) → all test (map f l) ≡ all (λ i. test (f i)) l
  all_map f [] = refl
  all_map f (i ∷ l) = rw (all_map f l)

  pub any-map : (f : ℕ → ℕ) (l : List ℕ) → any test (map f l) ≡ any (λ i. test (f i)) l
  any-map f [] = refl
  any-map f (i ∷ l) = rw (any-map f l)

  count_map-one : (i j : ℕ) (t : Bool) (l m : List ℕ) → length l ≡ length m → length (cond t (i ∷ l) l) ≡ length (cond t (j ∷ m) m)
  count_map-one i j true l m e = ap suc e
  count_map-one i j false l m e = e

  pub count_map : (f : ℕ → ℕ) (l : List ℕ) → count test (map f l) ≡ count (λ i. test (f i)) l
  count_map f [] = refl
  count_map f (i ∷ l) = count_map-one (f i) i (test (f i)) (keep test (map f l)) (keep (λ i. test (f i)) l) (count_map f l)

  -- ---- laws: of each number below n
  pub all_true : (n : ℕ) → all test (up_to n) ≡ true → (i : ℕ) → i < n → test i ≡ true
  all_true zero e = λ i l. absurd (omega arith)
  all_true (suc n) e =
      let s = and_split (all test (up_to n)) (test n) (sym (all-suc n) ∙ e) in
      below_suc (λ i. test i ≡ true) n (all_true n s.0) s.1

  pub true-all : (n : ℕ) → ((i : ℕ) → i < n → test i ≡ true) → all test (up_to n) ≡ true
  true-all zero h = refl
  true-all (suc n) h = rw (all-suc n, true-all n (λ i l. h i (omega arith))) (h n (omega arith))

  pub not-all : (n i : ℕ) → i < n → test i ≡ false → all test (up_to n) ≡ false
  not-all n i l e = go (all test (up_to n)) refl where
    go : (b : Bool) → all test (up_to n) ≡ b → b ≡ false
    go false h = refl
    go true h = sym (all_true n h i l) ∙ e

  pub any_false : (n : ℕ) → any test (up_to n) ≡ false → (i : ℕ) → i < n → test i ≡ false
  any_false zero e = λ i l. absurd (omega arith)
  any_false (suc n) e =
      let s = or_split (any test (up_to n)) (test n) (sym (any-suc n) ∙ e) in
      below_suc (λ i. test i ≡ false) n (any_false n s.0) s.1

  pub false-any : (n : ℕ) → ((i : ℕ) → i < n → test i ≡ false) → any test (up_to n) ≡ false
  false-any zero h = refl
  false-any (suc n) h = rw (any-suc n, false-any n (λ i l. h i (omega arith))) (h n (omega arith))

-- ---- laws: of the numbers below a sum
pub count_split : (test : ℕ → Bool) (a b : ℕ) → count test (up_to (a + b)) ≡ count test (up_to a) + count (λ i. test (a + i)) (up_to b)
count_split test a zero = let e : a + 0 ≡ a = omega arith in rw e (omega arith)
count_split test a (suc b) =
    let e : a + suc b ≡ a + b + 1 = omega arith in
    let f : count (λ i. test (a + i)) (up_to (suc b)) ≡ count (λ i. test (a + i)) (up_to b) + cond (test (a + b)) 1 0 = ap (λ k. count (λ i. test (a + i)) (up_to k)) (sym (add-one b)) ∙ count-more (λ i. test (a + i)) b in
    ap (λ k. count test (up_to k)) e ∙ count-more test (a + b) ∙ (omega (arith, count_split test a b, f))
