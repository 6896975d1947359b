-- A file judged byte by byte, in a few numbers: bytes of the header and the entry count so far; in a line of the table, the lines
-- after it, where its body has to start, the bytes of all bodies before it, how many bytes of it were read and its length so far; bytes of
-- bodies to come; refused.
use Rattle.std.specs.Prelude.{◌≡◌, refl, Bool, true, false, cond, List, [], ◌∷◌, ◌++◌, ℕ, zero, suc, ◌+◌, ◌*◌, ◌-◌, ◌≤◌, ◌<◌, leb, length, get_or, drop}
use Rattle.std.proofs.Common.{sym, ap, ◌∙◌, arith, le-leb, leb-true, leb-false, eq-eqb, ne_eqb, length-drop, drop_of_length-le, drop-cons, add-one}
use Rattle.std.proofs.lemmas.Bool.{lt-leb}
use Rattle.capture.specs.declared.Stage.{Stage}
use Rattle.capture.specs.declared.Stage.TheVariants.{Head as head, Line as line, Body as body, Refused as refused}
use Rattle.capture.specs.Stage.{enter, good_byte, size_after, count_after, less, feed, run, counts, skipped}

-- ---- pieces
-- bytes after bytes
pub run-append : (r : Stage) (a b : List ℕ) → run r (a ++ b) ≡ run (run r a) b
run-append r [] b = refl
run-append r (x ∷ a) b = run-append (feed x r) a b

-- a breach is for ever
pub run-refused : (l : List ℕ) → run refused l ≡ refused
run-refused [] = refl
run-refused (b ∷ l) = run-refused l

-- a piece of the bodies is only counted
pub run-body : (l : List ℕ) (n : ℕ) → run (body (length l + n)) l ≡ body n
run-body [] n = ap body (omega arith)
run-body (b ∷ l) n = rw (native.Mathlib.Nat.suc-add (length l) n) (run-body l n)

run_past : (l : List ℕ) (left : ℕ) → left < length l → run (body left) l ≡ refused
run_past [] left h = absurd (omega arith)
run_past (b ∷ l) zero h = run-refused l
run_past (b ∷ l) (suc left) h = run_past l left (omega arith)

skip_body : (l : List ℕ) (left : ℕ) (t : Bool) → leb (length l) left ≡ t → run (body left) l ≡ cond t (body (left - length l)) refused
skip_body l left true e =
    let h : length l ≤ left = leb-true (length l) left e in
    let q : length l + (left - length l) ≡ left = omega arith in
    ap (λ (n : ℕ). run (body n) l) (sym q) ∙ run-body l (left - length l)
skip_body l left false e = run_past l left (leb-false (length l) left e)

-- bytes that are only counted
pub run_skip : (r : Stage) (l : List ℕ) → counts r ≡ true → run r l ≡ skipped (length l) r
run_skip (head at count) l e = absurd (let z : ◌≡◌ {A = ℕ} 0 1 = cc in omega arith)
run_skip (line left next sum at size) l e = absurd (let z : ◌≡◌ {A = ℕ} 0 1 = cc in omega arith)
run_skip (body left) l e = skip_body l left (leb (length l) left) refl
run_skip refused l e = run-refused l

-- one byte
skip_one : (left : ℕ) → skipped 1 (body left) ≡ less left
skip_one zero = refl
skip_one (suc left) = rw (le-leb 1 (suc left) (omega arith)) (ap body (omega arith))

pub skip_fed : (b left : ℕ) (r q : Stage) → r ≡ body left → q ≡ skipped 1 (body left) → q ≡ feed b r
skip_fed b left r q e f = f ∙ skip_one left ∙ ap (feed b) (sym e)

-- the rest of a piece, from a place on
pub skip_rest : (r : Stage) (l : List ℕ) (i : ℕ) → counts r ≡ true → skipped (length l - i) r ≡ run r (drop i l)
skip_rest r l i e = ap (λ (n : ℕ). skipped n r) (sym (length-drop i l)) ∙ sym (run_skip r (drop i l) e)

-- one byte of a piece, from a place on; and its end
pub run_at : (r : Stage) (l : List ℕ) (i : ℕ) → i < length l → run (feed (get_or l i 0) r) (drop (i + 1) l) ≡ run r (drop i l)
run_at r l i h = sym (ap (run r) (drop-cons l i 0 h) ∙ rw add-one)

pub run_end : (r : Stage) (l : List ℕ) (i : ℕ) → length l ≤ i → run r (drop i l) ≡ r
run_end r l i h = ap (run r) (drop_of_length-le l h)

-- ---- as the code has it
pub enter-line : (left next sum : ℕ) → (left ≡ 0 → ⊥) → line (left - 1) next sum 0 0 ≡ enter left next sum
enter-line zero next sum e = absurd (e refl)
enter-line (suc left) next sum e = ap (λ (n : ℕ). line n next sum 0 0) (omega arith)

module _ (at count b c : ℕ) (e : c ≡ count_after at count b) where
  pub head-enter : (r : Stage) → c ≤ 512 → at + 1 ≡ 12 → r ≡ enter c (12 + 8 * c) 0 → r ≡ feed b (head at count)
  head-enter r h l q = q ∙ sym (rw (← e, le-leb c 512 h, eq-eqb (at + 1) 12 l))

  pub head-head : c ≤ 512 → (at + 1 ≡ 12 → ⊥) → head (at + 1) c ≡ feed b (head at count)
  head-head h l = sym (rw (← e, le-leb c 512 h, ne_eqb (at + 1) 12 l))

  pub head-refused : 512 < c → refused ≡ feed b (head at count)
  head-refused h = sym (rw (← e, lt-leb c 512 h))

module _ (left next sum at size b : ℕ) where
  pub line-enter : (r : Stage) (z : ℕ) → good_byte next at size b ≡ true → z ≡ size_after at size b → at + 1 ≡ 8
      → r ≡ enter left (next + z) (sum + z) → r ≡ feed b (line left next sum at size)
  line-enter r z g e l q = q ∙ sym (rw (← e, g, eq-eqb (at + 1) 8 l))

  pub line-line : (z : ℕ) → good_byte next at size b ≡ true → z ≡ size_after at size b → (at + 1 ≡ 8 → ⊥)
      → line left next sum (at + 1) z ≡ feed b (line left next sum at size)
  line-line z g e l = sym (rw (← e, g, ne_eqb (at + 1) 8 l))

  pub line_refused : good_byte next at size b ≡ false → refused ≡ feed b (line left next sum at size)
  line_refused g = sym (rw g)
