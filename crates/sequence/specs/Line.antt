-- Places on a line, in steps: how often a number stands among them. Assumes nothing.
use Rattle.std.specs.Prelude.{ℕ, ◌+◌, ◌*◌, List, map}
use Rattle.sequence.specs.Lists.{up_to}

-- na places from one on, in steps of an offset
abbrev pub line : (at offset na : ℕ) → List ℕ
line at offset na = map (λ j. at + j * offset) (up_to na)
