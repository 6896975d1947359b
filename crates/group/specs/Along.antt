-- The members of a group one after another, as the code works them out.
use Rattle.std.specs.Prelude.{◌≡◌, true, List, map, ℕ, ◌+◌, ◌<◌, ◌≤◌, drop}
use Rattle.sequence.specs.Lists.{up_to}
use Rattle.sequence.specs.Wrap.{ahead, member}
use Rattle.window.specs.Limits.{width}
use Rattle.window.specs.Group.{is_missing, missing}
use Rattle.window.specs.Look.{to_first, to_second}

-- the position of member j of the group that starts at SNBase
abbrev pub member_at : (base snbase offset j : ℕ) → ℕ
member_at base snbase offset j = ahead width base (member width snbase offset j)

-- the positions of the first na members
abbrev pub along : (base snbase offset na : ℕ) → List ℕ
along base snbase offset na = map (member_at base snbase offset) (up_to na)

-- the members from index j on
abbrev pub rest : (base snbase offset na j : ℕ) → List ℕ
rest base snbase offset na j = drop j (along base snbase offset na)

-- the members from an index up to j are visited, and none of them is missing
pub record Passed (marks : List ℕ) (base snbase offset na from j : ℕ) : Type 0 where
  pub start : from ≤ j
  pub end : j ≤ na
  pub same-missing : missing marks (rest base snbase offset na from) ≡ missing marks (rest base snbase offset na j)
  pub to_the_first : from + to_first marks (rest base snbase offset na from) ≡ j + to_first marks (rest base snbase offset na j)
  pub to_the_second : from + to_second marks (rest base snbase offset na from) ≡ j + to_second marks (rest base snbase offset na j)

-- from an index on the first member that is missing is at index r, or none is, and r is na
pub record Next (marks : List ℕ) (base snbase offset na from r : ℕ) : Type 0 where
  pub passed : Passed marks base snbase offset na from r
  pub here : r < na → is_missing marks (member_at base snbase offset r) ≡ true
