-- Coming to rest: a receiver at rest stays so whatever steps it makes, and any engine that does one thing a round gets there.
use Rattle.std.specs.Prelude.{◌≡◌, ◌≢◌, ◌⊎◌}
use Prim.Native.Nat.{ℕ, zero, suc, ◌<◌}
use Rattle.peel.specs.Group.{count}
use Rattle.peel.specs.Peel.{Code, View, miss, Spoilt, Steps}

-- at rest: of no check in hand exactly one member is missing
abbrev pub Still : {K C X : Type 0} → Code K C X → View K C X → Type 0
Still {K} {C} P s = (k : K) (v : C) → s.held k v → count (miss s) (P.group k) ≢ 1

-- one after the other, n rounds
unfoldable pub rounds : {A : Type 0} → (A → A) → ℕ → A → A
rounds one zero a = a
rounds one (suc n) a = rounds one n (one a)

-- any engine: what its rounds need and keep (fit), what there is to spend (left), what was done (did) and how many checks were found spoilt.
-- A round finds the receiver at rest and does nothing, or it does one thing and spends something; one that counts a check as spoilt has found
-- one so
pub record Engine {K C X : Type 0} (P : Code K C X) (A : Type 0) : Type 1 where
  pub see : A → View K C X
  pub fit : A → Type 0
  pub one : A → A
  pub left : A → ℕ
  pub did : A → ℕ
  pub spoilt : A → ℕ
  pub keeps : (a : A) → fit a → fit (one a)
  pub steps : (a : A) → fit a → Steps P (see a) (see (one a))
  pub work : (a : A) → fit a → ((one a ≡ a) × Still P (see a)) ⊎ ((left (one a) < left a) × (did (one a) ≡ suc (did a)))
  pub clear : (a : A) → fit a → (spoilt (one a) ≡ spoilt a) ⊎ ((k : K) × (v : C) × Spoilt P (see a) k v)
