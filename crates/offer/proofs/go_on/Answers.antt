-- `offer::go_on` meets its contract. Assumes nothing.
-- the parts of a store, by its lists
use mathlib.Core.List.{List}
use Prim.Native.Nat.{ℕ}
use Rattle.table.specs.declared.Row.{Row}
use Rattle.engine.specs.Round.{Parts}
use Rattle.offer.proofs.After.{went}
use native.Mathlib.Omega.{arith}
use Rattle.offer.proofs.go_on.Goals as goal

abbrev parts : (media timestamps lengths marks parity : List ℕ) → List Row → Parts
parts media timestamps lengths marks parity rows = record { media = media; timestamps = timestamps; lengths = lengths; marks = marks; parity = parity; rows = rows }

pub settle-r-requires : goal.settle-r-requires
settle-r-requires c = (c.requires.0, c.requires.1)

pub overflow_add-rebuilt : goal.overflow_add-rebuilt
overflow_add-rebuilt c = omega (arith, c.settle-r.ensures.few, c.requires.1, c.requires.2)

pub overflow_add-spoilt : goal.overflow_add-spoilt
overflow_add-spoilt c = omega (arith, c.settle-r.ensures.few, c.requires.1, c.requires.3)

pub overflow_add-r : goal.overflow_add-r
overflow_add-r c = omega (arith, c.settle-r.ensures.few, c.requires.1)

pub shape_of-media : goal.shape_of-media
shape_of-media c = omega (arith, c.settle-r.auto)

pub shape_of-timestamps : goal.shape_of-timestamps
shape_of-timestamps c = omega (arith, c.settle-r.auto)

pub shape_of-lengths : goal.shape_of-lengths
shape_of-lengths c = omega (arith, c.settle-r.auto)

pub shape_of-marks : goal.shape_of-marks
shape_of-marks c = omega (arith, c.settle-r.auto)

pub shape_of-parity : goal.shape_of-parity
shape_of-parity c = omega (arith, c.settle-r.auto)

pub shape_of-rows : goal.shape_of-rows
shape_of-rows c = omega (arith, c.settle-r.auto)

pub returns : goal.returns
returns c =
    let a = c.args in
    rw c.taken.ensures (went a.v (parts a.media.now a.timestamps.now a.lengths.now a.marks.now a.parity.now a.rows.now) a.rebuilt a.spoilt c.settle-r.result _ c.settle-r.ensures)
