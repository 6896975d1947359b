-- What is received, by name (Start.antt) and as the theory has it: the same packets, and their groups.
use Rattle.std.specs.Prelude.{ℕ}
use mathlib.Core.List.{List, map}
use Rattle.window.specs.declared.Window.{Window}
use Rattle.window.specs.Store.{Store}
use Rattle.calls.specs.Content.{Recovery}
use Rattle.peel.specs.Peel as Theory
use Rattle.guarantee.specs.Packets.{Packet}
use Rattle.guarantee.specs.View.{view}
use Rattle.guarantee.specs.Demand3.{Offer}
use Rattle.guarantee.specs.Sent.{seen}

-- what a run of these offers from a store has received, as the theory has it
abbrev pub Got : Window → Store → List Offer → Theory.Set (Theory.Offer (ℕ × ℕ) Recovery Packet)
Got w s offers = Theory.Plus (Theory.Has (view w s)) (map (seen w) offers)
