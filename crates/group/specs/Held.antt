-- The members of a group that are held, as rows of the store.
use Rattle.std.specs.Prelude.{◌≡◌, List, [], ◌∷◌, ℕ, ◌<◌, ◌≤◌, length, take}
use Rattle.window.specs.Limits.{most_side}
use Rattle.window.specs.Group.{present}

-- every element of a list is below a bound
abbrev pub Below : ℕ → List ℕ → Type 0
Below b [] = Unit
Below b (i ∷ l) = (i < b) × Below b l

-- the first m of rows are the members held of a group, each below n
pub record Held (group marks : List ℕ) (n : ℕ) (rows : List ℕ) (m : ℕ) : Type 0 where
  pub few : m ≤ most_side
  pub long : length rows ≡ most_side
  pub are : take m rows ≡ present marks group
  pub below : Below n (take m rows)
