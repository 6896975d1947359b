-- The note that a row keeps of the last look at its group, and what it tells. Assumes nothing.
use Rattle.std.specs.Prelude.{◌≡◌, refl, Bool, true, false, List, [], ◌∷◌, ℕ, ◌+◌, ◌-◌, ◌<◌, eqb, leb, length}
use Rattle.std.proofs.Common.{sym, ap, ◌∙◌, arith, ne_eqb, le-leb}
use Rattle.window.specs.declared.Look.{Look}
use Rattle.window.specs.declared.Look.TheVariants.{None, One, More}
use Rattle.window.specs.Group.{missing}
use Rattle.window.specs.Look.{to_second, look_by, look}

-- the note of a look: 0 where none is missing, 1 where more are, and 2 more than its position where one is
abbrev pub note_of : Look → ℕ
note_of (None v) = 0
note_of (More v) = 1
note_of (One i v) = i + 2

-- a note that none is missing
abbrev pub says_none : ℕ → Bool
says_none n = eqb n 0

-- a note that one is missing
abbrev pub says_one : ℕ → Bool
says_one n = leb 2 n

-- the position of the one that is missing
abbrev pub one_at : ℕ → ℕ
one_at n = n - 2

-- the note of a look at a window of so many positions
pub note-low : (a : Look) (n : ℕ) → ((i v : ℕ) → a ≡ One i v → i < n) → note_of a < n + 2
note-low (None v) n h = omega arith
note-low (One i v) n h = let l = h i v refl in omega arith
note-low (More v) n h = omega arith

-- the note of a look that found these
abbrev noted : List ℕ → (visited : ℕ) → ℕ
noted l v = note_of (look_by l v)

-- it says what is missing, however many were visited
by_none : (l : List ℕ) (v : ℕ) → says_none (noted l v) ≡ eqb (length l) 0
by_none [] v = refl
by_none (i ∷ []) v = ne_eqb (i + 2) 0 (λ z. omega arith)
by_none (i ∷ j ∷ l) v = sym (ne_eqb (length (i ∷ j ∷ l)) 0 (λ z. omega arith))

by_one : (l : List ℕ) (v : ℕ) → says_one (noted l v) ≡ eqb (length l) 1
by_one [] v = refl
by_one (i ∷ []) v = le-leb 2 (i + 2) (omega arith)
by_one (i ∷ j ∷ l) v = sym (ne_eqb (length (i ∷ j ∷ l)) 1 (λ z. omega arith))

no_way : {A : Type 0} → false ≡ true → A
no_way e = absurd (let z : ◌≡◌ {A = ℕ} 0 1 = cc in omega arith)

by_place : (l : List ℕ) (v : ℕ) → says_one (noted l v) ≡ true → l ≡ one_at (noted l v) ∷ []
by_place [] v e = no_way e
by_place (i ∷ []) v e = ap (λ (n : ℕ). n ∷ []) (omega arith)
by_place (i ∷ j ∷ l) v e = no_way e

by_list : (l : List ℕ) (v u : ℕ) → noted l v ≡ noted l u
by_list [] v u = refl
by_list (i ∷ []) v u = refl
by_list (i ∷ j ∷ l) v u = refl

-- the note of a look at a group
module _ (marks g : List ℕ) where
  pub none_is : says_none (note_of (look marks g)) ≡ eqb (length (missing marks g)) 0
  none_is = by_none (missing marks g) (to_second marks g)

  pub one-is : says_one (note_of (look marks g)) ≡ eqb (length (missing marks g)) 1
  one-is = by_one (missing marks g) (to_second marks g)

  -- and where one is missing, which
  pub place_is : says_one (note_of (look marks g)) ≡ true → missing marks g ≡ one_at (note_of (look marks g)) ∷ []
  place_is = by_place (missing marks g) (to_second marks g)

  -- where the same are missing of a group the note stays
  pub note-same : (marks' : List ℕ) → missing marks' g ≡ missing marks g → note_of (look marks' g) ≡ note_of (look marks g)
  note-same marks' e = ap (λ (l : List ℕ). noted l (to_second marks' g)) e ∙ by_list (missing marks g) (to_second marks' g) (to_second marks g)
