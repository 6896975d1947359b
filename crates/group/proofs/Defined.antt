-- The recovery that a whole group defines, beside one that is given: as far as the longest payload reaches, past which all is zero. Assumes nothing.
use Rattle.std.proofs.Common.{◌≡◌, refl, sym, ap, ap₂, ◌∙◌, Bool, true, false, not, ◌&&◌, ◌||◌, true≢false, List, [], ◌∷◌, map, ℕ, ◌*◌, ◌≤◌, arith, eqb, length, get_or, take, drop, replicate, length-take, length-take-le, eq-eqb, ne_eqb}
use Rattle.std.proofs.Math.Bool.{and-false, and-true}
use Rattle.std.proofs.Math.Seq.{paste}
use Rattle.std.proofs.lemmas.Bool.{false≢true}
use Rattle.std.proofs.lemmas.List.{length-replicate}
use Rattle.std.specs.Int.Bits.{xor_zero_l}
use Rattle.sequence.specs.Lists.{any}
use Rattle.sequence.proofs.Lists.{or_split}
use Rattle.xor.specs.Xor.{zip_xor, xor_all, xor_payloads, padded}
use Rattle.xor.specs.Same.{same}
use Rattle.xor.specs.Padded.{length-padded, padded-zeros, padded_twice, zip-padded, same-padded, take-front}
use Rattle.parity.specs.Rows.{row_of}
use Rattle.parity.specs.Own.{length_own, length-sum}
use Rattle.window.specs.declared.Record.{Record}
use Rattle.window.specs.declared.Window.{Window}
use Rattle.window.specs.Store.{stored}
use Rattle.window.specs.Group.{is_missing, present}
use Rattle.group.proofs.Rows.{sum-front}
use Rattle.calls.specs.Content.{Recovery, longest, number_over, same_content, same_recovery, recovery_over}

-- where none is missing, all are present
pub all-present : (marks l : List ℕ) → any (is_missing marks) l ≡ false → present marks l ≡ l
all-present marks [] e = refl
all-present marks (i ∷ l) e =
    let s = or_split (is_missing marks i) (any (is_missing marks) l) e in
    rw s.0 (ap (λ (k : List ℕ). i ∷ k) (all-present marks l s.1))

-- so the numbers held of a group, with nothing else, are those of the group
pub summed : (part marks group : List ℕ) → present marks group ≡ group → number_over part marks group 0 ≡ xor_all (map (λ i. get_or part i 0) group)
summed part marks group all = xor_zero_l (xor_all (map (λ i. get_or part i 0) (present marks group))) ∙ ap (λ (l : List ℕ). xor_all (map (λ i. get_or part i 0) l)) all

-- the exclusive-or of rows of no more than k bytes is zero past those
sum-short : (k p : ℕ) (media lengths : List ℕ) → k ≤ p → (l : List ℕ) → longest (map (λ i. get_or lengths i 0) l) ≤ k
    → xor_payloads p (map (row_of p p media lengths) l) ≡ padded p (xor_payloads k (map (row_of p k media lengths) l))
sum-short k p media lengths h [] e = sym (padded-zeros k p h)
sum-short k p media lengths h (i ∷ l) e =
    let own : List ℕ = take (get_or lengths i 0) (drop (i * p) media) in
    let short : length own ≤ k = simp length-take (omega arith) in
    let rest : List ℕ = xor_payloads k (map (row_of p k media lengths) l) in
    let lr : length rest ≡ k = length-sum k (row_of p k media lengths) (length_own p k media lengths) l in
    let lo : length (padded k own) ≡ k = length-padded k own in
    ap₂ zip_xor (sym (padded_twice k p own short h)) (sum-short k p media lengths h l (omega arith))
    ∙ zip-padded p (padded k own) rest (lo ∙ sym lr) (omega (arith, lo))

module _ (w : Window) (media timestamps lengths marks these : List ℕ) (whole : any (is_missing marks) these ≡ false)
    (stamp long size : ℕ)
    (es : stamp ≡ number_over timestamps marks these 0)
    (el : long ≡ number_over lengths marks these 0)
    (ez : size ≡ longest (map (λ i. get_or lengths i 0) (present marks these)))
    (t n : ℕ) (v : List ℕ) where
  -- the recovery that is given
  abbrev given : Recovery
  given = record { content = record { timestamp = t; length = n; payload = padded w.p v }; size = length v }

  -- that of the group
  abbrev its : List ℕ → List Record → Recovery
  its parity records = recovery_over w (stored media timestamps lengths marks parity records) these

  all : present marks these ≡ these
  all = all-present marks these whole

  number_is : (part : List ℕ) → number_over part marks these 0 ≡ xor_all (map (λ i. get_or part i 0) these)
  number_is part = summed part marks these all

  size_is : size ≡ longest (map (λ i. get_or lengths i 0) these)
  size_is = ez ∙ ap (λ (l : List ℕ). longest (map (λ i. get_or lengths i 0) l)) all

  -- a payload of another length
  pub other-size : (size ≡ length v → ⊥) → (parity : List ℕ) (records : List Record) → false ≡ same_recovery (its parity records) given
  other-size d parity records = sym (rw (← size_is, ne_eqb size (length v) d) (and-false (same_content (its parity records).content given.content)))

  -- another timestamp or length recovery
  pub other_numbers : (not (eqb stamp t) || not (eqb long n)) ≡ true → (parity : List ℕ) (records : List Record) → false ≡ same_recovery (its parity records) given
  other_numbers d parity records = rw (← number_is timestamps, ← number_is lengths, ← es, ← el) (go (eqb stamp t) (eqb long n) _ _ d)
    where
      go : (a b x y : Bool) → (not a || not b) ≡ true → false ≡ ((a && b && x) && y)
      go false b x y d = refl
      go true false x y d = refl
      go true true x y d = absurd (false≢true d)

  -- the same numbers: the payloads decide, as far as they reach
  pub by-payload : size ≡ length v → length v ≤ w.p → (not (eqb stamp t) || not (eqb long n)) ≡ false → (most : ℕ) → w.p ≤ most → (sum : List ℕ)
      → sum ≡ paste (replicate most 0) 0 (xor_payloads w.p (map (row_of w.p w.p media lengths) (present marks these))) size
      → (is : Bool) → is ≡ same (take size sum) v → (parity : List ℕ) (records : List Record) → is ≡ same_recovery (its parity records) given
  by-payload e low d most hm sum ep is ei parity records =
      let k : ℕ = length v in
      let x : List ℕ = xor_payloads w.p (map (row_of w.p w.p media lengths) these) in
      let lx : length x ≡ w.p = length-sum w.p (row_of w.p w.p media lengths) (length_own w.p w.p media lengths) these in
      let lz = length-replicate {A = ℕ} most 0 in
      let lt : length (take k x) ≡ k = length-take-le k x (omega arith) in
      let front : take k sum ≡ take k x =
      ap (take k) (ep ∙ ap₂ (λ (l : List ℕ) (m : ℕ). paste (replicate most 0) 0 (xor_payloads w.p (map (row_of w.p w.p media lengths) l)) m) all e) ∙ take-front (replicate most 0) x k (omega arith) (omega arith) in
      let short : x ≡ padded w.p (take k x) =
      sum-short k w.p media lengths low these (omega (arith, size_is)) ∙ ap (padded w.p) (sum-front k w.p media lengths low these) in
      let payloads : is ≡ same x (padded w.p v) =
      ei ∙ ap (λ (l : List ℕ). same l v) (ap (λ (j : ℕ). take j sum) e ∙ front) ∙ sym (same-padded w.p (take k x) v lt (omega arith)) ∙ ap (λ (l : List ℕ). same l (padded w.p v)) (sym short) in
      payloads ∙ rw (← number_is timestamps, ← number_is lengths, ← es, ← el, ← size_is, eq-eqb size k e) (go (eqb stamp t) (eqb long n) (same x (padded w.p v)) d)
    where
      go : (a b z : Bool) → (not a || not b) ≡ false → z ≡ ((a && b && z) && true)
      go true true z d = sym (and-true z)
      go false b z d = absurd (true≢false d)
      go true false z d = absurd (true≢false d)
