-- Refusals: a call's tests in document 01's order, each with its number; the first that applies is given.
use Rattle.std.specs.Prelude.{◌≡◌, refl, Bool, true, false, cond, List, [], ◌∷◌, ◌++◌, ℕ, T, ltb}
use Rattle.std.proofs.Common.{sym, ◌∙◌, arith, ltb→lt}

-- the number of the first test that applies; 0 where none does
unfoldable pub first : List (ℕ × Bool) → ℕ
first [] = 0
first ((k, applies) ∷ tests) = cond applies k (first tests)

-- no test applies
abbrev pub None : List (ℕ × Bool) → Type 0
None [] = Unit
None ((k, applies) ∷ tests) = (applies ≡ false) × None tests

-- ---- laws
pub first_hit : (k : ℕ) (t : Bool) (ts : List (ℕ × Bool)) → t ≡ true → k ≡ first ((k, t) ∷ ts)
unfolding first
first_hit k t ts e = rw e

pub first_past : (r k : ℕ) (t : Bool) (ts : List (ℕ × Bool)) → t ≡ false → r ≡ first ts → r ≡ first ((k, t) ∷ ts)
unfolding first
first_past r k t ts e h = rw e h

pub first-end : 0 ≡ first []
unfolding first
first-end = refl

-- where no test of one list applies, the next list decides
pub first-append : (ts us : List (ℕ × Bool)) → None ts → first (ts ++ us) ≡ first us
unfolding first
first-append [] us n = refl
first-append ((k, t) ∷ ts) us n = rw n.0 (first-append ts us n.1)

-- each test has a number other than 0
abbrev pub Numbered : List (ℕ × Bool) → Type 0
Numbered [] = Unit
Numbered ((k, applies) ∷ tests) = T (ltb 0 k) × Numbered tests

-- 0 says that no test applies
pub first-none : (ts : List (ℕ × Bool)) → Numbered ts → first ts ≡ 0 → None ts
unfolding first
first-none [] n e = tt
first-none ((k, false) ∷ ts) n e = (refl, first-none ts n.1 e)
first-none ((k, true) ∷ ts) n e = absurd (let h = ltb→lt 0 k n.0 in omega arith)

-- ---- laws: of two lists of tests
-- where a test of the first applies, it decides
pub first_stops : (ts us : List (ℕ × Bool)) → (first ts ≡ 0 → ⊥) → first ts ≡ first (ts ++ us)
unfolding first
first_stops [] us h = absurd (h refl)
first_stops ((k, true) ∷ ts) us h = refl
first_stops ((k, false) ∷ ts) us h = first_stops ts us h

-- where none does, the second decides
pub first_goes : (ts us : List (ℕ × Bool)) → Numbered ts → first ts ≡ 0 → first us ≡ first (ts ++ us)
first_goes ts us n e = sym (first-append ts us (first-none ts n e))

-- 0 over both says 0 over each
pub first-front : (ts us : List (ℕ × Bool)) → first (ts ++ us) ≡ 0 → first ts ≡ 0
unfolding first
first-front [] us e = refl
first-front ((k, true) ∷ ts) us e = e
first-front ((k, false) ∷ ts) us e = first-front ts us e

pub first_back : (ts us : List (ℕ × Bool)) → Numbered ts → first (ts ++ us) ≡ 0 → first us ≡ 0
first_back ts us n e = first_goes ts us n (first-front ts us e) ∙ e
