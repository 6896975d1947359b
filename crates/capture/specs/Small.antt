-- The numbers of a state stay small: they fit 32 bits, and so do a file's length and every start.
use Rattle.std.specs.Prelude.{ℕ, ◌+◌, ◌*◌, ◌≤◌, ◌<◌}
use Rattle.capture.specs.Stage.{Stage, head, line, body, refused}

pub record SmallHead (at count : ℕ) : Type 0 where
  pub at_small : at < 12
  pub count_small : count ≤ 512

pub record SmallLine (left next sum at size : ℕ) : Type 0 where
  pub left-small : left < 512
  pub next_small : next + 1500 * left + 1500 ≤ 772108
  pub sum-small : sum + 1500 * left + 1500 ≤ 768000
  pub at_small : at < 8
  pub size_small : size ≤ 1500

abbrev pub Small : Stage → Type 0
Small (head at count) = SmallHead at count
Small (line left next sum at size) = SmallLine left next sum at size
Small (body left) = left ≤ 768000
Small refused = Unit {0}
