-- Sequence numbers of w bits, which wrap: 16 for RTP.
use Rattle.std.specs.Prelude.{◌≡◌, ℕ, suc, ◌+◌, ◌-◌, ◌*◌, ◌%◌, ◌^◌, ◌<◌, ◌≤◌, Bool, true, false, ltb, map, nat_lt, refl}
use Rattle.std.proofs.Common.{sym, ap, ◌∙◌, mod-lt, mod-eq_of_lt, mul-le-mul_right, arith, pow_pos, lt-ltb, le-ltb, ltb-true, ltb-false}
use Rattle.std.proofs.lemmas.Simd.{map-map}
use Rattle.std.proofs.Math.Nat.{add-mod_right, mod-add-mod, add-mod-mod}
use Rattle.sequence.specs.Lists.{up_to, all}
use Rattle.sequence.proofs.Lists.{all_map, map_same, true-all, not-all}
use Rattle.sequence.specs.Wrap.{ahead, number_at, member, members}

-- ---- the wrap facts, once over the width
module _ (w base : ℕ) (h : base ≤ 2 ^ w) where
  -- the position of the number at a position
  pub ahead-number_at : (i : ℕ) → i < 2 ^ w → ahead w base (number_at w base i) ≡ i
  ahead-number_at i l =
      let e : base + i + (2 ^ w - base) ≡ i + 2 ^ w = omega arith in
      rw (mod-add-mod, e, add-mod_right) (mod-eq_of_lt l)

  -- the number at the position of a number
  pub number_at-ahead : (number : ℕ) → number < 2 ^ w → number_at w base (ahead w base number) ≡ number
  number_at-ahead number l =
      let e : base + (number + (2 ^ w - base)) ≡ number + 2 ^ w = omega arith in
      rw (add-mod-mod, e, add-mod_right) (mod-eq_of_lt l)

  -- two numbers at one position are one number
  pub ahead_injective : (a b : ℕ) → a < 2 ^ w → b < 2 ^ w → ahead w base a ≡ ahead w base b → a ≡ b
  ahead_injective a b la lb e = sym (number_at-ahead a la) ∙ ap (number_at w base) e ∙ number_at-ahead b lb

  -- positions of a group go on from SNBase's in steps of Offset, with wrap
  pub ahead-member : (snbase offset j : ℕ) → ahead w base (member w snbase offset j) ≡ (ahead w base snbase + j * offset) % 2 ^ w
  ahead-member snbase offset j =
      let e : snbase + j * offset + (2 ^ w - base) ≡ snbase + (2 ^ w - base) + j * offset = omega arith in
      rw (mod-add-mod, mod-add-mod, e)

  -- and without wrap as long as they stay below the width
  pub ahead_plain : (snbase offset j : ℕ) → ahead w base snbase + j * offset < 2 ^ w → ahead w base (member w snbase offset j) ≡ ahead w base snbase + j * offset
  ahead_plain snbase offset j l = ahead-member snbase offset j ∙ mod-eq_of_lt l

pub ahead-lt : (w base number : ℕ) → ahead w base number < 2 ^ w
ahead-lt w base number = mod-lt _ (pow_pos w)

-- the next member, by one more wrapping add
pub member-suc : (w snbase offset j : ℕ) → member w snbase offset (suc j) ≡ (member w snbase offset j + offset) % 2 ^ w
member-suc w snbase offset j =
    let e : snbase + suc j * offset ≡ snbase + j * offset + offset = omega arith in
    rw (mod-add-mod, e)

-- ---- a group that does not wrap
module _ (w base : ℕ) (h : base ≤ 2 ^ w) (snbase offset na : ℕ) where
  -- its positions are plain sums
  pub ahead-members : ((j : ℕ) → j < na → ahead w base snbase + j * offset < 2 ^ w) → map (ahead w base) (members w snbase offset na) ≡ map (λ j. ahead w base snbase + j * offset) (up_to na)
  ahead-members l =
      map-map (ahead w base) (member w snbase offset) (up_to na)
      ∙ map_same (λ j. ahead w base (member w snbase offset j)) (λ j. ahead w base snbase + j * offset) na (λ j i. ahead_plain w base h snbase offset j (l j i))

  -- it lies below n where the plain sum for its last member does
  pub below_last : (n : ℕ) → 0 < na → n + (na - 1) * offset ≤ 2 ^ w → all (λ i. ltb i n) (map (ahead w base) (members w snbase offset na)) ≡ nat_lt (ahead w base snbase + (na - 1) * offset) n
  below_last n pos room =
      all_map (λ i. ltb i n) (ahead w base) (members w snbase offset na)
      ∙ all_map (λ i. ltb (ahead w base i) n) (member w snbase offset) (up_to na)
      ∙ go (nat_lt (ahead w base snbase + (na - 1) * offset) n) refl
    where
      inside : ℕ → Bool
      inside j = nat_lt (ahead w base (member w snbase offset j)) n

      at : (j : ℕ) → ahead w base snbase + j * offset < 2 ^ w → inside j ≡ nat_lt (ahead w base snbase + j * offset) n
      at j l = ap (λ (i : ℕ). ltb i n) (ahead_plain w base h snbase offset j l)

      outside : (b : Bool) → nat_lt (ahead w base snbase) n ≡ b → n ≤ ahead w base snbase + (na - 1) * offset → all inside (up_to na) ≡ false
      outside true e f = not-all inside na (na - 1) (omega arith) (at (na - 1) (let q = ltb-true (ahead w base snbase) n e in omega arith) ∙ le-ltb (ahead w base snbase + (na - 1) * offset) n f)
      outside false e f =
          not-all inside na 0 pos (at 0 (let q = ahead-lt w base snbase in omega arith) ∙ le-ltb (ahead w base snbase + 0 * offset) n (let q = ltb-false (ahead w base snbase) n e in omega arith))

      go : (b : Bool) → nat_lt (ahead w base snbase + (na - 1) * offset) n ≡ b → all inside (up_to na) ≡ b
      go true e =
          true-all inside na
          (λ j l. let m : j * offset ≤ (na - 1) * offset = mul-le-mul_right offset (omega arith) in let q = ltb-true (ahead w base snbase + (na - 1) * offset) n e in at j (omega arith) ∙ lt-ltb (ahead w base snbase + j * offset) n (omega arith))
      go false e = outside (nat_lt (ahead w base snbase) n) refl (ltb-false (ahead w base snbase + (na - 1) * offset) n e)

-- ---- a base that moves on
module _ (w base : ℕ) where
  -- the number some positions after the number at a position
  pub number_at-onward : (i j : ℕ) → number_at w (number_at w base i) j ≡ number_at w base (i + j)
  number_at-onward i j = let e : base + i + j ≡ base + (i + j) = omega arith in rw (mod-add-mod, e)

  -- a number that lies no less ahead of a base than the base moves on lies by so many less ahead of the new one
  pub ahead-onward : (by number : ℕ) → base ≤ 2 ^ w → by ≤ ahead w base number → ahead w base number ≡ by + ahead w (number_at w base by) number
  ahead-onward by number h l =
      let q = ahead w base number in
      let new = number_at w base by in
      let low : q - by < 2 ^ w = omega (arith, ahead-lt w base number) in
      let small : new ≤ 2 ^ w = omega (arith, mod-lt (base + by) (pow_pos w)) in
      let e : base + (number + (2 ^ w - base)) ≡ number + 2 ^ w = omega arith in
      let f : by + (q - by) ≡ q = omega arith in
      let there : number_at w new (q - by) ≡ number % 2 ^ w = number_at-onward by (q - by) ∙ ap (number_at w base) f ∙ add-mod-mod base (number + (2 ^ w - base)) (2 ^ w) ∙ ap (λ k. k % 2 ^ w) e ∙ add-mod_right number (2 ^ w) in
      let back : ahead w new (number % 2 ^ w) ≡ ahead w new number = mod-add-mod number (2 ^ w) (2 ^ w - new) in
      let g : q - by ≡ ahead w new number = sym (ahead-number_at w new small (q - by) low) ∙ ap (ahead w new) there ∙ back in
      omega arith
