use Rattle.std.proofs.Common.{◌≡◌, List, ℕ, ◌-◌, length}
use Rattle.table.specs.declared.Row.{Row}
use Rattle.engine.specs.Round.{Parts}
use Rattle.engine.proofs.Going.{Going}
use Rattle.engine.proofs.settle.Given as goal

abbrev pub parts : (media timestamps lengths marks parity : List ℕ) → List Row → Parts
parts media timestamps lengths marks parity rows = record { media = media; timestamps = timestamps; lengths = lengths; marks = marks; parity = parity; rows = rows }

abbrev pub invariant-loop-round : goal.invariant-loop-round
invariant-loop-round l =
    Going l.fn.w (parts l.initial.media l.initial.timestamps l.initial.lengths l.initial.marks l.initial.parity l.initial.rows) l.v (parts l.media l.timestamps l.lengths l.marks l.parity l.rows) l.rebuilt l.spoilt (l.fn.w.in_use - l._round)
    × (length l.media ≡ length l.initial.media) × (length l.timestamps ≡ length l.initial.timestamps) × (length l.lengths ≡ length l.initial.lengths) × (length l.marks ≡ length l.initial.marks) × (length l.parity ≡ length l.initial.parity) × (length l.rows ≡ length l.initial.rows)
