-- Lists of positions: ranges, and what a test holds of.
use Rattle.std.specs.Prelude.{ℕ, zero, suc, Bool, true, false, cond, ◌&&◌, ◌||◌, List, [], ◌∷◌, ◌++◌, length}

-- the numbers below n, in order
abbrev pub up_to : ℕ → List ℕ
up_to zero = []
up_to (suc n) = up_to n ++ (n ∷ [])

-- whether a test holds of every element
abbrev pub all : (ℕ → Bool) → List ℕ → Bool
all test [] = true
all test (i ∷ l) = test i && all test l

-- whether a test holds of some element
abbrev pub any : (ℕ → Bool) → List ℕ → Bool
any test [] = false
any test (i ∷ l) = test i || any test l

-- the elements of which a test holds, in order
abbrev pub keep : (ℕ → Bool) → List ℕ → List ℕ
keep test [] = []
keep test (i ∷ l) = cond (test i) (i ∷ keep test l) (keep test l)

-- of how many elements a test holds
abbrev pub count : (ℕ → Bool) → List ℕ → ℕ
count test l = length (keep test l)

-- the first element, or another number where there is none
abbrev pub head_or : ℕ → List ℕ → ℕ
head_or other [] = other
head_or other (i ∷ l) = i
