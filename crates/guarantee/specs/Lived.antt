-- What one event of a life is given and leaves (Life.antt): a window over its feed is kept.
use Rattle.window.specs.declared.Window.{Window}
use Rattle.calls.specs.Call.{Outcome}
use Rattle.guarantee.specs.Demand3.{Stretch}
use Rattle.guarantee.specs.Start.{Start, SameSetUp}

-- ---- an offer, whether there is room for it or not
-- what a call leaves is a start with the same set-up numbers
abbrev pub Again : Window → Stretch → Outcome → Type 0
Again w t x = SameSetUp x.window w × Start x.window t x.store
