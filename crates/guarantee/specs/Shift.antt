-- A window value whose base moved on, and a store whose positions moved down (calls' Move.antt): positions, groups, marks and contents.
use Rattle.std.specs.Prelude.{List, ℕ, replicate}

-- ---- a part of the store
-- zeros
abbrev pub zeros : ℕ → List ℕ
zeros m = replicate m 0
