-- What refusals 1 to 4 leave known: bounds on the set-up numbers, and how much of the store there is.
use Rattle.std.specs.Prelude.{◌≡◌, refl, Bool, true, false, ◌&&◌, ◌||◌, ℕ, zero, suc, ◌*◌, ◌/◌, ◌%◌, ◌≤◌, eqb, leb, ltb, length}
use Rattle.std.proofs.Common.{ap, ◌∙◌, arith, ltb-false, leb-true, le-leb, eqb-true, ne_eqb}
use Rattle.std.proofs.lemmas.Bool.{not-false}
use Rattle.answer.specs.First.{first, first-none}
use Rattle.sequence.proofs.Lists.{and_split, or_split}
use Rattle.rtp.specs.Length.{good_length}
use Rattle.window.specs.declared.Window.{Window}
use Rattle.window.specs.Limits.{most_side, most_matrix, most_positions, most_records, bad_profile, bad_payload, one_to_seven, set_up_tests}
use Rattle.window.specs.Store.{Store, short_store}

-- ---- refusals 1 to 3

-- a profile within its limits
pub record Profile (l d : ℕ) : Type 0 where
  pub l-low : 1 ≤ l
  pub l-high : l ≤ most_side
  pub d-low : 4 ≤ d
  pub d-high : d ≤ most_side
  pub area : l * d ≤ most_matrix

-- a window value whose set-up numbers are within their limits
pub record SetUp (w : Window) : Type 0 where
  pub profile : Profile w.l w.d
  pub p-low : 188 ≤ w.p
  pub p-high : w.p ≤ 1428
  pub p-good : good_length w.p w.p ≡ true
  pub room : w.l * w.d ≤ w.n
  pub n-high : w.n ≤ most_positions
  pub k-low : 1 ≤ w.k
  pub k-high : w.k ≤ most_records

pub sides_good : (l d : ℕ) → (ltb l 1 || ltb 20 l || ltb d 4 || ltb 20 d) ≡ false → (1 ≤ l) × (l ≤ 20) × (4 ≤ d) × (d ≤ 20)
sides_good l d e =
    let s3 = or_split (ltb l 1 || ltb 20 l || ltb d 4) (ltb 20 d) e in
    let s2 = or_split (ltb l 1 || ltb 20 l) (ltb d 4) s3.0 in
    let s1 = or_split (ltb l 1) (ltb 20 l) s2.0 in
    (ltb-false l 1 s1.0, ltb-false 20 l s1.1, ltb-false d 4 s2.1, ltb-false 20 d s3.1)

pub profile-good : (w : Window) → bad_profile w ≡ false → Profile w.l w.d
profile-good w e =
    let s = or_split (ltb w.l 1 || ltb 20 w.l || ltb w.d 4 || ltb 20 w.d) (ltb 100 (w.l * w.d)) e in
    let b = sides_good w.l w.d s.0 in
    record { l-low = b.0; l-high = b.1; d-low = b.2; d-high = b.3; area = ltb-false 100 (w.l * w.d) s.1 }

-- one to seven units of 204 bytes are no whole units of 188
pub other-unit : (k : ℕ) → 1 ≤ k → k ≤ 7 → k * 204 % 188 ≡ 0 → ⊥
other-unit zero a b e = omega arith
other-unit (suc zero) a b e = omega arith
other-unit (suc (suc zero)) a b e = omega arith
other-unit (suc (suc (suc zero))) a b e = omega arith
other-unit (suc (suc (suc (suc zero)))) a b e = omega arith
other-unit (suc (suc (suc (suc (suc zero))))) a b e = omega arith
other-unit (suc (suc (suc (suc (suc (suc zero)))))) a b e = omega arith
other-unit (suc (suc (suc (suc (suc (suc (suc zero))))))) a b e = omega arith
other-unit (suc (suc (suc (suc (suc (suc (suc (suc k)))))))) a b e = omega arith

payload_case : (p : ℕ) (a b : Bool) → one_to_seven 188 p ≡ a → one_to_seven 204 p ≡ b → (a || b) ≡ true → (188 ≤ p) × (p ≤ 1428) × (good_length p p ≡ true)
payload_case p true b ea eb e =
    let s2 = and_split (eqb (p % 188) 0 && leb 1 (p / 188)) (leb (p / 188) 7) ea in
    let s1 = and_split (eqb (p % 188) 0) (leb 1 (p / 188)) s2.0 in
    let lo = leb-true 1 (p / 188) s1.1 in
    let hi = leb-true (p / 188) 7 s2.1 in
    let z = eqb-true (p % 188) 0 s1.0 in
    (omega arith, omega arith, rw (s1.0, le-leb 1 p (omega arith), le-leb p p (omega arith)) s1.0)
payload_case p false b ea eb e =
    let s2 = and_split (eqb (p % 204) 0 && leb 1 (p / 204)) (leb (p / 204) 7) (eb ∙ e) in
    let s1 = and_split (eqb (p % 204) 0) (leb 1 (p / 204)) s2.0 in
    let lo = leb-true 1 (p / 204) s1.1 in
    let hi = leb-true (p / 204) 7 s2.1 in
    let z = eqb-true (p % 204) 0 s1.0 in
    let whole : p / 204 * 204 ≡ p = omega arith in
    (omega arith, omega arith, rw (ne_eqb (p % 188) 0 (λ y. other-unit (p / 204) lo hi (ap (λ n. n % 188) whole ∙ y)), le-leb 1 p (omega arith), le-leb p p (omega arith)) s1.0)

pub payload-good : (w : Window) → bad_payload w ≡ false → (188 ≤ w.p) × (w.p ≤ 1428) × (good_length w.p w.p ≡ true)
payload-good w e = payload_case w.p (one_to_seven 188 w.p) (one_to_seven 204 w.p) refl refl (not-false (one_to_seven 188 w.p || one_to_seven 204 w.p) e)

-- where none of refusals 1 to 3 applies
pub set_up_good : (w : Window) → first (set_up_tests w) ≡ 0 → SetUp w
set_up_good w e =
    let none = first-none (set_up_tests w) (tt, (tt, (tt, tt))) e in
    let p = payload-good w none.1.0 in
    let s3 = or_split (ltb w.n (w.l * w.d) || ltb 400 w.n || ltb w.k 1) (ltb 128 w.k) none.1.1.0 in
    let s2 = or_split (ltb w.n (w.l * w.d) || ltb 400 w.n) (ltb w.k 1) s3.0 in
    let s1 = or_split (ltb w.n (w.l * w.d)) (ltb 400 w.n) s2.0 in
    record {
      profile = profile-good w none.0;
      p-low = p.0;
      p-high = p.1;
      p-good = p.2;
      room = ltb-false w.n (w.l * w.d) s1.0;
      n-high = ltb-false 400 w.n s1.1;
      k-low = ltb-false w.k 1 s2.1;
      k-high = ltb-false 128 w.k s3.1;
    }

-- ---- refusal 4

-- a store with as much of each part as the window needs
pub record Sized (w : Window) (s : Store) : Type 0 where
  pub media-long : w.n * w.p ≤ length s.media
  pub timestamps-long : w.n ≤ length s.timestamps
  pub lengths-long : w.n ≤ length s.lengths
  pub marks-long : w.n ≤ length s.marks
  pub parity-long : w.k * w.p ≤ length s.parity
  pub records-long : w.k ≤ length s.records

-- where refusal 4 does not apply
pub sizes-good : (w : Window) (s : Store) → short_store w s ≡ false → Sized w s
sizes-good w s e =
    let s5 = or_split _ _ e in
    let s4 = or_split _ _ s5.0 in
    let s3 = or_split _ _ s4.0 in
    let s2 = or_split _ _ s3.0 in
    let s1 = or_split _ _ s2.0 in
    record {
      media-long = ltb-false _ _ s1.0;
      timestamps-long = ltb-false _ _ s1.1;
      lengths-long = ltb-false _ _ s2.1;
      marks-long = ltb-false _ _ s3.1;
      parity-long = ltb-false _ _ s4.1;
      records-long = ltb-false _ _ s5.1;
    }
