-- What every call but opening meets first, refusals 1 to 5: the ways through them, and what is known behind them. Assumes nothing.
use Rattle.std.specs.Prelude.{Bool, ◌||◌, List, [], ◌∷◌, ◌++◌, ℕ, ◌≤◌}
use Rattle.window.specs.declared.Window.{Window}
use Rattle.window.specs.Limits.{set_up_tests}
use Rattle.window.specs.Store.{Store, short_store}
use Rattle.window.specs.Bounds.{SetUp, Sized}
use Rattle.window.specs.Order.{disorder}
use Rattle.window.specs.InOrder.{InOrder}

-- the tests of `standing_tests`, where it is known whether the output is too short
abbrev pub standing_by : Window → Store → (short : Bool) → List (ℕ × Bool)
standing_by w s short = set_up_tests w ++ ((4, short_store w s || short) ∷ (5, disorder w s) ∷ [])

-- where none of refusals 1 to 5 applies
pub record Standing (w : Window) (s : Store) (room need : ℕ) : Type 0 where
  pub set_up : SetUp w
  pub sized : Sized w s
  pub fits : need ≤ room
  pub order : InOrder w s
