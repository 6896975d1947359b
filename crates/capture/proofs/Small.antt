-- The numbers of a state stay small: they fit 32 bits, and so do a file's length and every start.
use Rattle.std.specs.Prelude.{◌≡◌, refl, Bool, true, false, cond, List, [], ◌∷◌, ℕ, zero, suc, ◌+◌, ◌*◌, ◌≤◌, ◌<◌, eqb, ltb, leb}
use Rattle.std.proofs.Common.{⊎_elim, eq-or-lt_of_le, le_of_suc-le-suc, arith, ltb-false, leb-true, ne_eqb}
use Rattle.std.proofs.lemmas.Bool.{eqb-false}
use Rattle.capture.specs.Content.{table_end}
use Rattle.capture.specs.Stage.{Stage, enter, head, line, body, refused, good_byte, size_after, count_after, lined, headed, feed, run}
use Rattle.capture.specs.Small.{Small}

small-enter : (left next sum : ℕ) → left ≤ 512 → next + 1500 * left ≤ 772108 → sum + 1500 * left ≤ 768000 → Small (enter left next sum)
small-enter zero next sum h k m = omega arith
small-enter (suc left) next sum h k m = record { left-small = omega arith; next_small = omega arith; sum-small = omega arith; at_small = omega arith; size_small = omega arith }

small-headed : (at count : ℕ) (t : Bool) → eqb at 12 ≡ t → at < 13 → count ≤ 512 → Small (cond t (enter count (table_end count) 0) (head at count))
small-headed at count true e h k = small-enter count (table_end count) 0 k (omega arith) (omega arith)
small-headed at count false e h k = record { at_small = last at h (eqb-false at 12 e); count_small = k } where
  last : (at : ℕ) → at < 13 → (at ≡ 12 → ⊥) → at < 12
  last at h n = ⊎_elim (λ (e : at ≡ 12). absurd (n e)) (λ (l : at < 12). l) (eq-or-lt_of_le (le_of_suc-le-suc h))

small-lined : (left next sum at size : ℕ) (t : Bool) → eqb at 8 ≡ t → at < 9 → left < 512 → next + 1500 * left + 1500 ≤ 772108 → sum + 1500 * left + 1500 ≤ 768000 → size ≤ 1500
    → Small (cond t (enter left (next + size) (sum + size)) (line left next sum at size))
small-lined left next sum at size true e h k m n o = small-enter left (next + size) (sum + size) (omega arith) (omega arith) (omega arith)
small-lined left next sum at size false e h k m n o = record { left-small = k; next_small = m; sum-small = n; at_small = last at h (eqb-false at 8 e); size_small = o } where
  last : (at : ℕ) → at < 9 → (at ≡ 8 → ⊥) → at < 8
  last at h n = ⊎_elim (λ (e : at ≡ 8). absurd (n e)) (λ (l : at < 8). l) (eq-or-lt_of_le (le_of_suc-le-suc h))

-- the length of a line that is let pass
pub size_small-after : (next at size b : ℕ) → size ≤ 1500 → good_byte next at size b ≡ true → size_after at size b ≤ 1500
size_small-after next at size b h e = go (ltb at 2) (ltb at 4) refl refl where
  go : (s t : Bool) → ltb at 2 ≡ s → ltb at 4 ≡ t → cond s size (cond t (size * 256 + b) size) ≤ 1500
  go true t p q = h
  go false false p q = h
  go false true p q =
      let two : 2 ≤ at = ltb-false at 2 p in
      leb-true (size * 256 + b) 1500 (rw (ne_eqb at 0 (λ (z : at ≡ 0). omega arith), ne_eqb at 1 (λ (z : at ≡ 1). omega arith), q) at e)

pub feed-small : (b : ℕ) (r : Stage) → Small r → Small (feed b r)
feed-small b (head at count) h = go (leb (count_after at count b) 512) refl where
  go : (t : Bool) → leb (count_after at count b) 512 ≡ t → Small (cond t (headed (at + 1) (count_after at count b)) refused)
  go true e = small-headed (at + 1) (count_after at count b) (eqb (at + 1) 12) refl (omega (arith, h.at_small)) (leb-true (count_after at count b) 512 e)
  go false e = tt
feed-small b (line left next sum at size) h = go (good_byte next at size b) refl where
  go : (t : Bool) → good_byte next at size b ≡ t → Small (cond t (lined left next sum (at + 1) (size_after at size b)) refused)
  go true e = small-lined left next sum (at + 1) (size_after at size b) (eqb (at + 1) 8) refl (omega (arith, h.at_small)) h.left-small h.next_small h.sum-small (size_small-after next at size b h.size_small e)
  go false e = tt
feed-small b (body zero) h = tt
feed-small b (body (suc left)) h = omega arith
feed-small b refused h = tt

pub run_small : (r : Stage) (l : List ℕ) → Small r → Small (run r l)
run_small r [] h = h
run_small r (b ∷ l) h = run_small (feed b r) l (feed-small b r h)
