-- Elements that move down within a part.
use Rattle.std.specs.Prelude.{List, ℕ, ◌-◌, ◌++◌, take, drop, replicate}

-- the first n elements moved down by m, with the same one behind them
abbrev pub down : {A : Type 0} (zero : A) (m n : ℕ) → List A → List A
down zero m n part = take (n - m) (drop m part) ++ replicate m zero ++ drop n part
