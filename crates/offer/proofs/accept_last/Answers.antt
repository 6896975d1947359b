-- `offer::accept_last` meets its contract: the missing packet is rebuilt, or the parity packet is spoilt, and settling goes on from there. Assumes nothing.
-- the parts of a store, by its lists
use mathlib.Core.Path.{ap}
use mathlib.Core.Bool.{not}
use mathlib.Core.Path.{sym, subst, ◌∙◌}
use mathlib.Core.List.{List}
use Prim.Native.Nat.{ℕ, ◌+◌}
use borrow.Author.Tests.{not-true, not-false}
use Rattle.window.specs.Plain.{Inside}
use Rattle.calls.specs.Accept.{accept_parity}
use Rattle.calls.specs.Call.{begun}
use Rattle.table.specs.Apart.{alike-length}
use Rattle.table.specs.declared.Row.{Row}
use Rattle.engine.specs.Round.{Parts}
use Rattle.engine.proofs.Same.{set_up_same, sound-same}
use Rattle.engine.proofs.Again.{sound-inside}
use Rattle.rtp.specs.Fec.{parity_header_size}
use lib.ListN.{length-drop}
use Rattle.offer.proofs.Tests.{carried_is}
use Rattle.offer.proofs.After.{serves-after, accepted, last-is, last_here, serves-spoilt, spoilt-accepted}
use native.Mathlib.Omega.{arith}
use Rattle.offer.proofs.accept_last.Goals as goal

abbrev parts : (media timestamps lengths marks parity : List ℕ) → List Row → Parts
parts media timestamps lengths marks parity rows = record { media = media; timestamps = timestamps; lengths = lengths; marks = marks; parity = parity; rows = rows }

pub rebuild_at-good-requires : goal.rebuild_at-good-requires
rebuild_at-good-requires c =
    let a = c.args in
    let x = parts a.media.now a.timestamps.now a.lengths.now a.marks.now a.parity.now a.rows.now in
    let h = last_here a.w (omega (arith, c.well_formed)) x c.requires.0 a.stream a.datagram.now c.requires.2 a.i c.requires.3 in
    (c.requires.0.set_up, subst (Inside a.w a.stream) (sym c.snbase-snbase.ensures) c.requires.2, h, rw c.recovery_of.ensures.2 (rw (length-drop parity_header_size a.datagram.now) (omega (arith, c.requires.1.1))), c.requires.0.media-long, c.requires.0.timestamps-long, c.requires.0.lengths-long, c.requires.0.marks-long)

pub go_on-requires : goal.go_on-requires
go_on-requires c =
    let a = c.args in
    let x = parts a.media.now a.timestamps.now a.lengths.now a.marks.now a.parity.now a.rows.now in
    (serves-spoilt a.w a.stream a.datagram.now x a.i c.snbase-snbase.result c.rebuild_at-good.result _ _ _ _ c.snbase-snbase.ensures c.requires.3 _ (carried_is a.w.p a.datagram.now _ _ _ c.recovery_of.ensures.0 c.recovery_of.ensures.1 c.recovery_of.ensures.2) c.rebuild_at-good.ensures (not-true c.rebuild_at-good.result (ap not c.if-not-good.true)) c.requires.0, omega (arith, c.requires.4, c.requires.5, c.requires.0.set_up.n-high), omega arith, omega arith)

pub shape_of-media-then-not-good : goal.shape_of-media-then-not-good
shape_of-media-then-not-good c = omega (arith, c.rebuild_at-good.auto, c.go_on.auto)

pub shape_of-timestamps-then-not-good : goal.shape_of-timestamps-then-not-good
shape_of-timestamps-then-not-good c = omega (arith, c.rebuild_at-good.auto, c.go_on.auto)

pub shape_of-lengths-then-not-good : goal.shape_of-lengths-then-not-good
shape_of-lengths-then-not-good c = omega (arith, c.rebuild_at-good.auto, c.go_on.auto)

pub shape_of-marks-then-not-good : goal.shape_of-marks-then-not-good
shape_of-marks-then-not-good c = omega (arith, c.rebuild_at-good.auto, c.go_on.auto)

pub shape_of-parity-then-not-good : goal.shape_of-parity-then-not-good
shape_of-parity-then-not-good c = omega (arith, c.go_on.auto)

pub shape_of-rows-then-not-good : goal.shape_of-rows-then-not-good
shape_of-rows-then-not-good c = omega (arith, c.go_on.auto)

pub returns-then-not-good : goal.returns-then-not-good
returns-then-not-good c =
    let a = c.args in
    let x = parts a.media.now a.timestamps.now a.lengths.now a.marks.now a.parity.now a.rows.now in
    spoilt-accepted a.w a.stream a.datagram.now x a.i c.snbase-snbase.result c.rebuild_at-good.result _ _ _ _ c.snbase-snbase.ensures c.requires.3 _ (carried_is a.w.p a.datagram.now _ _ _ c.recovery_of.ensures.0 c.recovery_of.ensures.1 c.recovery_of.ensures.2) c.rebuild_at-good.ensures (not-true c.rebuild_at-good.result (ap not c.if-not-good.true)) c.go_on.result _ c.go_on.ensures

pub overflow_add-w : goal.overflow_add-w
overflow_add-w c = omega (arith, c.requires.4, c.requires.0.set_up.n-high)

pub look_again-requires : goal.look_again-requires
look_again-requires c =
    let a = c.args in
    let e = c.recounted-v.ensures in
    (set_up_same a.w c.recounted-v.result (a.w.present + 1) a.w.in_use e c.requires.0.set_up, rw e (omega (arith, c.rebuild_at-good.auto, c.requires.0.marks-long)), sound-inside c.recounted-v.result a.marks.now a.rows.now (sound-same a.w c.recounted-v.result (a.w.present + 1) a.w.in_use a.marks.now a.rows.now e c.requires.0.sound))

pub go_on-requires-2 : goal.go_on-requires-2
go_on-requires-2 c =
    let a = c.args in
    let x = parts a.media.now a.timestamps.now a.lengths.now a.marks.now a.parity.now a.rows.now in
    let done = c.rebuild_at-good.ensures.done (not-false c.rebuild_at-good.result (ap not c.if-not-good.false)) in (
      serves-after a.w x _ _ _ _ _ c.recounted-v.result c.recounted-v.ensures c.requires.0 a.i (omega (arith, c.rebuild_at-good.auto)) (omega (arith, c.rebuild_at-good.auto)) (omega (arith, c.rebuild_at-good.auto)) done.3 c.look_again.ensures,
      rw c.recounted-v.ensures (omega (arith, c.requires.4, c.requires.5, c.requires.0.set_up.n-high)),
      omega arith,
      omega arith,
    )

pub shape_of-media : goal.shape_of-media
shape_of-media c = omega (arith, c.rebuild_at-good.auto, c.go_on-2.auto)

pub shape_of-timestamps : goal.shape_of-timestamps
shape_of-timestamps c = omega (arith, c.rebuild_at-good.auto, c.go_on-2.auto)

pub shape_of-lengths : goal.shape_of-lengths
shape_of-lengths c = omega (arith, c.rebuild_at-good.auto, c.go_on-2.auto)

pub shape_of-marks : goal.shape_of-marks
shape_of-marks c = omega (arith, c.rebuild_at-good.auto, c.go_on-2.auto)

pub shape_of-parity : goal.shape_of-parity
shape_of-parity c = omega (arith, c.go_on-2.auto)

pub shape_of-rows : goal.shape_of-rows
shape_of-rows c = omega (arith, c.go_on-2.auto, c.look_again.auto)

pub returns : goal.returns
returns c =
    let a = c.args in
    let x = parts a.media.now a.timestamps.now a.lengths.now a.marks.now a.parity.now a.rows.now in
    let good = not-false c.rebuild_at-good.result (ap not c.if-not-good.false) in
    accepted a.w x _ _ _ _ _ c.recounted-v.result c.recounted-v.ensures c.look_again.ensures.alike (λ s. accept_parity a.stream a.datagram.now (begun a.w s)) 1 0
    (λ t f. last-is a.w a.stream a.datagram.now x a.i c.snbase-snbase.result c.rebuild_at-good.result _ _ _ _ c.snbase-snbase.ensures c.requires.3 _ (carried_is a.w.p a.datagram.now _ _ _ c.recovery_of.ensures.0 c.recovery_of.ensures.1 c.recovery_of.ensures.2) c.rebuild_at-good.ensures good c.recounted-v.result c.recounted-v.ensures t) c.go_on-2.result _ c.go_on-2.ensures
