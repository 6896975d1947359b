-- Places on a line, in steps: how often a number stands among them. Assumes nothing.
use Rattle.std.specs.Prelude.{◌≡◌, ℕ, zero, suc, ◌+◌, ◌-◌, ◌*◌, ◌%◌, ◌<◌, ◌≤◌, Bool, true, false, cond, ◌||◌, ◌==◌, ◌≢◌, nat_eq, nat_le, nat_lt, refl}
use Rattle.std.proofs.Common.{sym, ap, ◌∙◌, mul-le-mul_right, suc-mul, mod-eq_of_lt, add-one, arith, eqb-true, eq-eqb, ne_eqb, ltb-true, ltb-false, leb-true, leb-false}
use Rattle.std.proofs.Math.Nat.{mul-mod_left, mul-add-mod_self_right}
use Rattle.std.proofs.lemmas.Bool.{eqb-false}
use Rattle.sequence.specs.Lists.{up_to, count}
use Rattle.sequence.proofs.Lists.{or_split, count-more, count_map}
use Rattle.sequence.specs.Line.{line}

count-suc : (test : ℕ → Bool) (n : ℕ) → count test (up_to (suc n)) ≡ count test (up_to n) + cond (test n) 1 0
count-suc test n = ap (λ (k : ℕ). count test (up_to k)) (sym (add-one n)) ∙ count-more test n

count_none : (test : ℕ → Bool) (n : ℕ) → ((j : ℕ) → j < n → test j ≡ false) → count test (up_to n) ≡ 0
count_none test zero h = refl
count_none test (suc n) h = count-suc test n ∙ rw (count_none test n (λ j l. h j (omega arith)), h n (omega arith))

module _ (at offset i : ℕ) where
  -- i is place j of the line
  abbrev place : ℕ → Bool
  place j = i == at + j * offset

  -- nothing of the line is there
  off_line : (n : ℕ) → ((j : ℕ) → j < n → i ≢ at + j * offset) → count (nat_eq i) (line at offset n) ≡ 0
  off_line n h = count_map (nat_eq i) (λ j. at + j * offset) (up_to n) ∙ count_none place n (λ j l. ne_eqb i (at + j * offset) (h j l))

  -- places before place n lie before it
  before : (n : ℕ) → 1 ≤ offset → (j : ℕ) → j < n → at + j * offset < at + n * offset
  before n pos j l = let k = rw (suc-mul j offset) at (mul-le-mul_right offset l) in omega arith

  left_of : (n : ℕ) → i < at → count (nat_eq i) (line at offset n) ≡ 0
  left_of n h = off_line n (λ j l e. omega arith)

  right_of : (n : ℕ) → 1 ≤ offset → at + n * offset ≤ i → count (nat_eq i) (line at offset n) ≡ 0
  right_of n pos h = off_line n (λ j l e. let k = before n pos j l in omega arith)

  -- before the first place, or past the last
  pub beside : (n : ℕ) → 1 ≤ offset → (nat_lt i at || nat_le (at + n * offset) i) ≡ true → count (nat_eq i) (line at offset n) ≡ 0
  beside n pos e = go (nat_lt i at) refl e
    where
      go : (t : Bool) → nat_lt i at ≡ t → (t || nat_le (at + n * offset) i) ≡ true → count (nat_eq i) (line at offset n) ≡ 0
      go true h f = left_of n (ltb-true i at h)
      go false h f = right_of n pos (leb-true (at + n * offset) i f)

  between : (n : ℕ) → at + n * offset < i → i < at + suc n * offset → ((i - at) % offset == 0) ≡ false
  between n lo hi =
      let k = suc-mul n offset in
      let e : i - at ≡ n * offset + (i - at - n * offset) = omega arith in
      let m : (i - at) % offset ≡ i - at - n * offset = ap (λ (x : ℕ). x % offset) e ∙ mul-add-mod_self_right n offset (i - at - n * offset) ∙ mod-eq_of_lt (omega arith) in
      ne_eqb ((i - at) % offset) 0 (λ z. omega arith)

  here : (n : ℕ) → i ≡ at + n * offset → ((i - at) % offset == 0) ≡ true
  here n e =
      let d : i - at ≡ n * offset = omega arith in
      eq-eqb ((i - at) % offset) 0 (ap (λ (x : ℕ). x % offset) d ∙ mul-mod_left n offset)

  -- from the first place on, before the place that would follow the last, i stands once on the line or falls between its places
  pub on_line : (n : ℕ) → 1 ≤ offset → at ≤ i → i < at + n * offset → count (nat_eq i) (line at offset n) ≡ cond ((i - at) % offset == 0) 1 0
  on_line zero pos lo hi = absurd (omega (arith, lo, hi))
  on_line (suc n) pos lo hi = count_map (nat_eq i) (λ j. at + j * offset) (up_to (suc n)) ∙ count-suc place n ∙ go (i == at + n * offset) (nat_lt i (at + n * offset)) refl refl (on_line n pos lo)
    where
      go : (t u : Bool) → (i == at + n * offset) ≡ t → nat_lt i (at + n * offset) ≡ u → (i < at + n * offset → count (nat_eq i) (line at offset n) ≡ cond ((i - at) % offset == 0) 1 0)
          → count place (up_to n) + cond t 1 0 ≡ cond ((i - at) % offset == 0) 1 0
      go true u et eu ih =
          let z : i ≡ at + n * offset = eqb-true i (at + n * offset) et in
          rw (here n z) (let k = right_of n pos (omega arith) in let q = count_map (nat_eq i) (λ j. at + j * offset) (up_to n) in omega arith)
      go false true et eu ih = let q = count_map (nat_eq i) (λ j. at + j * offset) (up_to n) in let k = ih (ltb-true i (at + n * offset) eu) in omega arith
      go false false et eu ih =
          let d = eqb-false i (at + n * offset) et in
          let g = ltb-false i (at + n * offset) eu in
          let k = right_of n pos g in
          let q = count_map (nat_eq i) (λ j. at + j * offset) (up_to n) in
          rw (between n (omega (arith, d)) hi) (omega arith)

-- a line has each place once
pub line-once : (at offset i n : ℕ) → 1 ≤ offset → count (nat_eq i) (line at offset n) ≤ 1
line-once at offset i n pos = go (nat_lt i at || nat_le (at + n * offset) i) refl
  where
    one : (t : Bool) → cond t 1 0 ≤ 1
    one true = omega arith
    one false = omega arith

    go : (t : Bool) → (nat_lt i at || nat_le (at + n * offset) i) ≡ t → count (nat_eq i) (line at offset n) ≤ 1
    go true e = omega (arith, beside at offset i n pos e)
    go false e =
        let s = or_split (nat_lt i at) (nat_le (at + n * offset) i) e in
        rw (on_line at offset i n pos (ltb-false i at s.0) (leb-false (at + n * offset) i s.1)) (one ((i - at) % offset == 0))
