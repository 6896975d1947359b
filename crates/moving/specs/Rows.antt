-- What a move releases of the rows of a hand.
use Rattle.std.specs.Prelude.{Bool, ◌&&◌, List, ℕ, ltb}
use Rattle.sequence.specs.Wrap.{ahead}
use Rattle.window.specs.Limits.{width}
use Rattle.window.specs.Order.{used}
use Rattle.table.specs.declared.Row.{Row}
use Rattle.table.specs.View.{it_at}

-- a row in use whose group begins behind position `by`
abbrev pub row_behind : (base by : ℕ) → List Row → ℕ → Bool
row_behind base by hs i = used (it_at hs i) && ltb (ahead width base (it_at hs i).snbase) by
