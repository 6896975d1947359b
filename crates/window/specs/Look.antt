-- Whether none, one or more of a group are missing, and how many of its members are visited to tell (02, request 3).
use Rattle.std.specs.Prelude.{◌≡◌, refl, cond, List, [], ◌∷◌, ℕ, suc, ◌≤◌, leb, ltb, length}
use Rattle.std.proofs.Common.{sym, ◌∙◌, arith, le-leb, lt-ltb}
use Rattle.sequence.specs.Lists.{any}
use Rattle.sequence.proofs.Lists.{any-count}
use Rattle.window.specs.declared.Look.{Look}
use Rattle.window.specs.declared.Look.TheVariants.{None, One, More}
use Rattle.window.specs.Limits.{least_missing}
use Rattle.window.specs.Group.{is_missing, missing}

-- how many of some positions are visited, in their order, up to the first that is missing, or all
abbrev pub to_first : (marks : List ℕ) → List ℕ → ℕ
to_first marks [] = 0
to_first marks (i ∷ g) = suc (cond (is_missing marks i) 0 (to_first marks g))

-- how many up to the second that is missing, or all
abbrev pub to_second : (marks : List ℕ) → List ℕ → ℕ
to_second marks [] = 0
to_second marks (i ∷ g) = suc (cond (is_missing marks i) (to_first marks g) (to_second marks g))

-- what is found where these positions are missing
abbrev pub look_by : (missing : List ℕ) → (visited : ℕ) → Look
look_by [] v = None v
look_by (i ∷ []) v = One i v
look_by (i ∷ j ∷ more) v = More v

-- a look at some positions in their order, which ends at the second that is missing
abbrev pub look : (marks : List ℕ) → List ℕ → Look
look marks g = look_by (missing marks g) (to_second marks g)

-- how many are missing at least
abbrev pub at_least : Look → ℕ
at_least (None v) = 0
at_least (One i v) = 1
at_least (More v) = 2

-- ---- what they say of each other

-- what a look says of the missing
module _ (marks g : List ℕ) (v : ℕ) where
  pub none-missing : look marks g ≡ None v → missing marks g ≡ []
  none-missing = go (missing marks g)
    where
      go : (l : List ℕ) → look_by l (to_second marks g) ≡ None v → l ≡ []
      go [] e = refl
      go (i ∷ []) e = let z : ◌≡◌ {A = ℕ} 0 1 = cc in absurd (omega arith)
      go (i ∷ j ∷ l) e = let z : ◌≡◌ {A = ℕ} 0 1 = cc in absurd (omega arith)

  pub one-missing : (i : ℕ) → look marks g ≡ One i v → missing marks g ≡ i ∷ []
  one-missing i = go (missing marks g)
    where
      go : (l : List ℕ) → look_by l (to_second marks g) ≡ One i v → l ≡ i ∷ []
      go [] e = let z : ◌≡◌ {A = ℕ} 0 1 = cc in absurd (omega arith)
      go (j ∷ []) e = let z : j ≡ i = cc in rw z
      go (j ∷ k ∷ l) e = let z : ◌≡◌ {A = ℕ} 0 1 = cc in absurd (omega arith)

  pub more-missing : look marks g ≡ More v → 2 ≤ length (missing marks g)
  more-missing = go (missing marks g)
    where
      go : (l : List ℕ) → look_by l (to_second marks g) ≡ More v → 2 ≤ length l
      go [] e = let z : ◌≡◌ {A = ℕ} 0 1 = cc in absurd (omega arith)
      go (i ∷ []) e = let z : ◌≡◌ {A = ℕ} 0 1 = cc in absurd (omega arith)
      go (i ∷ j ∷ l) e = omega arith

-- where a parity packet has to wait for two at most, the look tells whether enough are missing
pub waits-is : (marks g : List ℕ) → leb least_missing (at_least (look marks g)) ≡ leb least_missing (length (missing marks g))
waits-is marks g = go (missing marks g)
  where
    go : (l : List ℕ) → leb least_missing (at_least (look_by l (to_second marks g))) ≡ leb least_missing (length l)
    go [] = refl
    go (i ∷ []) = refl
    go (i ∷ j ∷ l) = sym (le-leb least_missing (length (i ∷ j ∷ l)) (omega arith))

-- and whether one is missing at all
pub lacks_is : (marks g : List ℕ) → ltb 0 (at_least (look marks g)) ≡ any (is_missing marks) g
lacks_is marks g = go (missing marks g) ∙ sym (any-count (is_missing marks) g)
  where
    go : (l : List ℕ) → ltb 0 (at_least (look_by l (to_second marks g))) ≡ ltb 0 (length l)
    go [] = refl
    go (i ∷ []) = refl
    go (i ∷ j ∷ l) = sym (lt-ltb 0 (length (i ∷ j ∷ l)) (omega arith))
