-- Tests that agree below n hold of all, of some, and of as many of the numbers below n. Assumes nothing.
use mathlib.Core.Path.{◌≡◌, refl, sym, subst, ◌∙◌}
use mathlib.Core.Bool.{Bool, cond, ◌&&◌, ◌||◌}
use Prim.Native.Nat.{ℕ, zero, suc, ◌+◌, ◌<◌, ◌≤◌}
use native.Mathlib.Numerals.{add-one}
use native.Mathlib.Omega.{arith}
use Rattle.sequence.specs.Lists.{up_to, all, any, count}
use Rattle.sequence.proofs.Lists.{all_more, any-more, count-more, count-le, length-up_to}

module _ (f : ℕ → Bool) (n : ℕ) where
  all-suc : all f (up_to (suc n)) ≡ (all f (up_to n) && f n)
  all-suc = subst (λ (m : ℕ). all f (up_to m) ≡ (all f (up_to n) && f n)) (add-one n) (all_more f n)

  any-suc : any f (up_to (suc n)) ≡ (any f (up_to n) || f n)
  any-suc = subst (λ (m : ℕ). any f (up_to m) ≡ (any f (up_to n) || f n)) (add-one n) (any-more f n)

  count-suc : count f (up_to (suc n)) ≡ count f (up_to n) + cond (f n) 1 0
  count-suc = subst (λ (m : ℕ). count f (up_to m) ≡ count f (up_to n) + cond (f n) 1 0) (add-one n) (count-more f n)

  -- at most n of them
  pub count_most : count f (up_to n) ≤ n
  count_most = omega (arith, count-le f (up_to n), length-up_to n)

both : {a b c d : Bool} → a ≡ c → b ≡ d → (a && b) ≡ (c && d)
both e f = rw (e, f)

either : {a b c d : Bool} → a ≡ c → b ≡ d → (a || b) ≡ (c || d)
either e f = rw (e, f)

plus : {m n : ℕ} {a b : Bool} → m ≡ n → a ≡ b → m + cond a 1 0 ≡ n + cond b 1 0
plus e f = rw (e, f)

module _ (f g : ℕ → Bool) where
  pub all_same : (n : ℕ) → ((i : ℕ) → i < n → f i ≡ g i) → all f (up_to n) ≡ all g (up_to n)
  all_same zero h = refl
  all_same (suc n) h = all-suc f n ∙ both (all_same n (λ i l. h i (omega arith))) (h n (omega arith)) ∙ sym (all-suc g n)

  pub any_same : (n : ℕ) → ((i : ℕ) → i < n → f i ≡ g i) → any f (up_to n) ≡ any g (up_to n)
  any_same zero h = refl
  any_same (suc n) h = any-suc f n ∙ either (any_same n (λ i l. h i (omega arith))) (h n (omega arith)) ∙ sym (any-suc g n)

  pub count_same : (n : ℕ) → ((i : ℕ) → i < n → f i ≡ g i) → count f (up_to n) ≡ count g (up_to n)
  count_same zero h = refl
  count_same (suc n) h = count-suc f n ∙ plus (count_same n (λ i l. h i (omega arith))) (h n (omega arith)) ∙ sym (count-suc g n)
