-- `engine::one_round` meets its contract: each return is a way through `round`. Assumes nothing.
-- the parts at entry
use Rattle.std.specs.Prelude.{Option, Some, None}
use mathlib.Core.Path.{◌≡◌, refl, sym, ap}
use mathlib.Core.Bool.{not}
use mathlib.Core.Path.{◌∙◌}
use mathlib.Core.List.{List}
use Prim.Native.Nat.{ℕ, ◌+◌, ◌*◌, ◌-◌, ◌^◌, ◌<◌, ◌≤◌}
use lib.ListN.{length, take, drop, length-take}
use Rattle.window.specs.declared.Window.{Window}
use Rattle.window.specs.Limits.{width}
use Rattle.table.specs.View.{it_at, slot_at}
use Rattle.engine.specs.Rows.{next_row}
use borrow.Author.Tests.{not-true, not-false}
use Rattle.table.specs.Apart.{alike-length}
use Rattle.group.proofs.Rows.{row_ends}
use Rattle.table.specs.declared.Row.{Row}
use Rattle.engine.specs.Round.{Parts, Serves}
use Rattle.engine.proofs.Same.{set_up_same, sound-same}
use Rattle.engine.proofs.Again.{sound-inside}
use Rattle.engine.proofs.Rounds.{carried_by, none_found, row_inside, row_low, note-high, size_low, missing-low, spoilt-found, low-now, room-now, one_found}
use native.Mathlib.Omega.{arith}
use Rattle.engine.proofs.one_round.Goals as goal

none_of : (o : Option ℕ) {n : Option ℕ} → ((r : ℕ) → o ≡ Some r → ⊥) → o ≡ n → n ≡ None
none_of None {n} h e = sym e
none_of (Some r) {n} h e = absurd (h r refl)

abbrev parts : (media timestamps lengths marks parity : List ℕ) → List Row → Parts
parts media timestamps lengths marks parity rows = record { media = media; timestamps = timestamps; lengths = lengths; marks = marks; parity = parity; rows = rows }

pub returns-in_default : goal.returns-in_default
returns-in_default c =
    let a = c.args in
    none_found a.w (parts a.media.now a.timestamps.now a.lengths.now a.marks.now a.parity.now a.rows.now) c.requires.0 (none_of c.next_ready.result c.in_default.not-Some c.next_ready.ensures.next)

pub row_missing-i-requires : goal.row_missing-i-requires
row_missing-i-requires c =
    let a = c.args in
    let x = parts a.media.now a.timestamps.now a.lengths.now a.marks.now a.parity.now a.rows.now in
    (c.in-Some.ensures.low, note-high a.w (omega (arith, c.well_formed)) x c.requires.0 c.in-Some.r (sym c.next_ready.ensures.next ∙ c.in-Some.is) _ refl _ refl)

pub overflow_mul-at : goal.overflow_mul-at
overflow_mul-at c =
    let a = c.args in
    let x = parts a.media.now a.timestamps.now a.lengths.now a.marks.now a.parity.now a.rows.now in
    omega (arith, row_ends _ a.w.k a.w.p _ (row_low a.w (omega (arith, c.well_formed)) x c.requires.0 c.in-Some.r (sym c.next_ready.ensures.next ∙ c.in-Some.is) _ refl _ refl) c.requires.0.parity-long, c.well_formed)

-- a part is no longer than it was asked for
at_most : (l : List ℕ) (at n p : ℕ) → n ≤ p → length (take (at + n - at) (drop at l)) ≤ p
at_most l at n p h = rw (length-take (at + n - at) (drop at l)) (omega arith)

-- the payload of the row that was found lies in the parity bytes
room : (w : Window) (based : w.base < 2 ^ width) (x : Parts) (serves : Serves w x) (r : ℕ) (is : next_row w.base x.rows (length x.rows) ≡ Some r) (n : ℕ) → n ≡ (it_at x.rows r).payload_length → slot_at x.rows r * w.p + n ≤ length x.parity
room w based x serves r is n e =
    let low = size_low w based x serves r is _ refl _ refl in
    let ends = row_ends _ w.k w.p _ (row_low w based x serves r is _ refl _ refl) serves.parity-long in
    omega (arith, low, e, ends)

pub slice_bounds-recovery-end : goal.slice_bounds-recovery-end
slice_bounds-recovery-end c =
    let a = c.args in
    let x = parts a.media.now a.timestamps.now a.lengths.now a.marks.now a.parity.now a.rows.now in
    room a.w (omega (arith, c.well_formed)) x c.requires.0 c.in-Some.r (sym c.next_ready.ensures.next ∙ c.in-Some.is) c.wide-size.result c.wide-size.ensures.0

pub rebuild_at-good-requires : goal.rebuild_at-good-requires
rebuild_at-good-requires c =
    let a = c.args in
    let x = parts a.media.now a.timestamps.now a.lengths.now a.marks.now a.parity.now a.rows.now in
    let is = sym c.next_ready.ensures.next ∙ c.in-Some.is in
    let low = size_low a.w (omega (arith, c.well_formed)) x c.requires.0 c.in-Some.r is _ refl _ refl in (
      c.requires.0.set_up,
      row_inside a.w (omega (arith, c.well_formed)) x c.requires.0 c.in-Some.r is _ refl _ refl,
      missing-low a.w (omega (arith, c.well_formed)) x c.requires.0 c.in-Some.r is _ refl _ refl c.row_missing-i.result c.row_missing-i.ensures,
      at_most _ (slot_at a.rows.now c.in-Some.r * a.w.p) c.wide-size.result a.w.p (omega (arith, low, c.wide-size.ensures.0)),
      c.requires.0.media-long,
      c.requires.0.timestamps-long,
      c.requires.0.lengths-long,
      c.requires.0.marks-long,
    )

pub free_row-window-requires : goal.free_row-window-requires
free_row-window-requires c =
    let a = c.args in
    let x = parts a.media.now a.timestamps.now a.lengths.now a.marks.now a.parity.now a.rows.now in
    (c.in-Some.ensures.low, (row_low a.w (omega (arith, c.well_formed)) x c.requires.0 c.in-Some.r (sym c.next_ready.ensures.next ∙ c.in-Some.is) _ refl _ refl), c.requires.0.parity-long)

pub returns-then-not-good : goal.returns-then-not-good
returns-then-not-good c =
    let a = c.args in
    let v = it_at a.rows.now c.in-Some.r in
    let x = parts a.media.now a.timestamps.now a.lengths.now a.marks.now a.parity.now a.rows.now in
    spoilt-found a.w (omega (arith, c.well_formed)) x c.requires.0 c.in-Some.r (sym c.next_ready.ensures.next ∙ c.in-Some.is) _ refl _ refl c.row_missing-i.result c.row_missing-i.ensures _ _ _ _ c.rebuild_at-good.result c.wide-size.result c.wide-size.ensures.0 _ (carried_by a.w a.parity.now v (slot_at a.rows.now c.in-Some.r) c.wide-size.result (room a.w (omega (arith, c.well_formed)) x c.requires.0 c.in-Some.r (sym c.next_ready.ensures.next ∙ c.in-Some.is) c.wide-size.result c.wide-size.ensures.0)) c.rebuild_at-good.ensures (not-true c.rebuild_at-good.result (ap not c.if-not-good.true)) c.free_row-window.result _ _ c.free_row-window.ensures

pub overflow_add-w : goal.overflow_add-w
overflow_add-w c = omega (arith, c.requires.1)

pub look_again-requires : goal.look_again-requires
look_again-requires c =
    let a = c.args in
    let e = c.recounted-more.ensures in
    (set_up_same a.w c.recounted-more.result (a.w.present + 1) a.w.in_use e c.requires.0.set_up, rw e (omega (arith, c.rebuild_at-good.auto, c.requires.0.marks-long)), sound-inside c.recounted-more.result a.marks.now a.rows.now (sound-same a.w c.recounted-more.result (a.w.present + 1) a.w.in_use a.marks.now a.rows.now e c.requires.0.sound))

pub release_all-window-requires : goal.release_all-window-requires
release_all-window-requires c =
    let a = c.args in
    let v = it_at a.rows.now c.in-Some.r in
    let x = parts a.media.now a.timestamps.now a.lengths.now a.marks.now a.parity.now a.rows.now in
    let fit = not-false c.rebuild_at-good.result (ap not c.if-not-good.false) in (
      low-now a.w (omega (arith, c.well_formed)) x c.requires.0 c.in-Some.r (sym c.next_ready.ensures.next ∙ c.in-Some.is) _ refl _ refl c.row_missing-i.result c.row_missing-i.ensures _ _ _ _ c.rebuild_at-good.result c.wide-size.result c.wide-size.ensures.0 _ (carried_by a.w a.parity.now v (slot_at a.rows.now c.in-Some.r) c.wide-size.result (room a.w (omega (arith, c.well_formed)) x c.requires.0 c.in-Some.r (sym c.next_ready.ensures.next ∙ c.in-Some.is) c.wide-size.result c.wide-size.ensures.0)) c.rebuild_at-good.ensures fit c.recounted-more.result c.recounted-more.ensures _ c.look_again.ensures,
      room-now a.w (omega (arith, c.well_formed)) x c.requires.0 c.in-Some.r (sym c.next_ready.ensures.next ∙ c.in-Some.is) _ refl _ refl c.row_missing-i.result c.row_missing-i.ensures _ _ _ _ c.rebuild_at-good.result c.wide-size.result c.wide-size.ensures.0 _ (carried_by a.w a.parity.now v (slot_at a.rows.now c.in-Some.r) c.wide-size.result (room a.w (omega (arith, c.well_formed)) x c.requires.0 c.in-Some.r (sym c.next_ready.ensures.next ∙ c.in-Some.is) c.wide-size.result c.wide-size.ensures.0)) c.rebuild_at-good.ensures fit c.recounted-more.result c.recounted-more.ensures _ c.look_again.ensures,
    )

pub shape_of-media : goal.shape_of-media
shape_of-media c = omega (arith, c.rebuild_at-good.auto, c.look_again.auto, c.release_all-window.auto)

pub shape_of-timestamps : goal.shape_of-timestamps
shape_of-timestamps c = omega (arith, c.rebuild_at-good.auto, c.look_again.auto, c.release_all-window.auto)

pub shape_of-lengths : goal.shape_of-lengths
shape_of-lengths c = omega (arith, c.rebuild_at-good.auto, c.look_again.auto, c.release_all-window.auto)

pub returns : goal.returns
returns c =
    let a = c.args in
    let v = it_at a.rows.now c.in-Some.r in
    let x = parts a.media.now a.timestamps.now a.lengths.now a.marks.now a.parity.now a.rows.now in
    one_found a.w (omega (arith, c.well_formed)) x c.requires.0 c.in-Some.r (sym c.next_ready.ensures.next ∙ c.in-Some.is) _ refl _ refl c.row_missing-i.result c.row_missing-i.ensures _ _ _ _ c.rebuild_at-good.result c.wide-size.result c.wide-size.ensures.0 _ (carried_by a.w a.parity.now v (slot_at a.rows.now c.in-Some.r) c.wide-size.result (room a.w (omega (arith, c.well_formed)) x c.requires.0 c.in-Some.r (sym c.next_ready.ensures.next ∙ c.in-Some.is) c.wide-size.result c.wide-size.ensures.0)) c.rebuild_at-good.ensures (not-false c.rebuild_at-good.result (ap not c.if-not-good.false)) c.recounted-more.result c.recounted-more.ensures _ c.look_again.ensures c.release_all-window.result _ _ c.release_all-window.ensures (omega (arith, c.rebuild_at-good.auto)) (omega (arith, c.rebuild_at-good.auto)) (omega (arith, c.rebuild_at-good.auto))
