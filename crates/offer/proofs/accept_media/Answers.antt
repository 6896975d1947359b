-- `offer::accept_media` meets its contract: the packet becomes present, and settling goes on from there. Assumes nothing.
-- the parts of a store, by its lists
use mathlib.Core.Path.{◌≡◌, refl, ap, ◌∙◌}
use mathlib.Core.List.{List}
use Prim.Native.Nat.{ℕ, ◌+◌, ◌*◌, ◌-◌, ◌<◌}
use lib.ListN.{length, set, take, drop, length-set}
use Rattle.sequence.specs.Wrap.{ahead}
use Rattle.rtp.specs.Rtp.{rtp_header_size}
use Rattle.window.specs.Limits.{width}
use Rattle.calls.specs.Accept.{accept_media}
use Rattle.calls.specs.Call.{begun}
use Rattle.table.specs.Apart.{alike-length, alike_refl}
use Rattle.table.specs.declared.Row.{Row}
use Rattle.engine.specs.Round.{Parts}
use Rattle.engine.proofs.Same.{set_up_same, sound-same}
use Rattle.engine.proofs.Again.{sound-inside}
use Rattle.group.proofs.Rows.{row_ends}
use Rattle.window.specs.declared.Window.{Window}
use Rattle.offer.specs.declared.Offered.{Offered}
use borrow.Rule.Slice.PartMut.{put_mid, same_len_mid}
use Rattle.offer.proofs.Tests.{rest-long, part-long, laid}
use Rattle.offer.proofs.After.{serves-after, accepted, went-none, media-is}
use native.Mathlib.Omega.{arith}
use Rattle.offer.proofs.accept_media.Goals as goal

abbrev parts : (media timestamps lengths marks parity : List ℕ) → List Row → Parts
parts media timestamps lengths marks parity rows = record { media = media; timestamps = timestamps; lengths = lengths; marks = marks; parity = parity; rows = rows }

pub overflow_mul-at : goal.overflow_mul-at
overflow_mul-at c =
    let a = c.args in
    omega (arith, row_ends a.i a.w.n a.w.p _ c.requires.3 c.requires.0.media-long, c.well_formed)

pub slice_bounds-lay-end : goal.slice_bounds-lay-end
slice_bounds-lay-end c =
    let a = c.args in
    omega (arith, row_ends a.i a.w.n a.w.p _ c.requires.3 c.requires.0.media-long)

pub lay-requires : goal.lay-requires
lay-requires c =
    let a = c.args in
    let room = part-long a.media.now (a.i * a.w.p) a.w.p (omega (arith, row_ends a.i a.w.n a.w.p _ c.requires.3 c.requires.0.media-long)) in
    omega (arith, room, rest-long rtp_header_size a.datagram.now, c.requires.1.1)

pub bounds-timestamps-i : goal.bounds-timestamps-i
bounds-timestamps-i c =
    let a = c.args in
    omega (arith, c.requires.3, c.requires.0.timestamps-long)

pub overflow_cast-lengths : goal.overflow_cast-lengths
overflow_cast-lengths c = omega (arith, rest-long rtp_header_size c.args.datagram.now, c.requires.1.0, c.requires.1.1, c.requires.0.set_up.p-high)

pub bounds-lengths-i : goal.bounds-lengths-i
bounds-lengths-i c =
    let a = c.args in
    omega (arith, c.requires.3, c.requires.0.lengths-long)

pub bounds-marks-i : goal.bounds-marks-i
bounds-marks-i c =
    let a = c.args in
    omega (arith, c.requires.3, c.requires.0.marks-long)

pub overflow_add-w : goal.overflow_add-w
overflow_add-w c = omega (arith, c.requires.5, c.requires.0.set_up.n-high)

pub returns-then-w-eq0 : goal.returns-then-w-eq0
returns-then-w-eq0 c =
    let a = c.args in
    let x = parts a.media.now a.timestamps.now a.lengths.now a.marks.now a.parity.now a.rows.now in
    let u : a.w.in_use ≡ 0 = omega (arith, c.if-w-eq0.true) in (
      accepted a.w x (put_mid (a.i * a.w.p) (a.i * a.w.p + a.w.p - a.i * a.w.p) a.media.now c.lay.new.dst) (set a.timestamps.now a.i c.timestamp.result) (set a.lengths.now a.i (length (take (length a.datagram.now - rtp_header_size) (drop rtp_header_size a.datagram.now)))) (set a.marks.now a.i 1) a.rows.now c.recounted.result c.recounted.ensures (alike_refl a.rows.now) (λ s. accept_media a.datagram.now (begun a.w s)) 0 0
          (λ t f. media-is a.w c.recounted.result a.datagram.now x t a.i c.timestamp.result _ c.recounted.ensures c.requires.2 c.timestamp.ensures (laid a.media.now a.datagram.now rtp_header_size (a.i * a.w.p) a.w.p c.lay.new.dst (omega (arith, row_ends a.i a.w.n a.w.p _ c.requires.3 c.requires.0.media-long)) c.lay.ensures)) c.taken.result _ (rw c.taken.ensures (went-none c.recounted.result _ 0 0 (ap (λ (v : Window). v.in_use) c.recounted.ensures ∙ u))),
      ap (λ (o : Offered). o.held) c.taken.ensures,
    )

pub overflow_add-w-2 : goal.overflow_add-w-2
overflow_add-w-2 c = omega (arith, c.requires.5, c.requires.0.set_up.n-high)

pub look_again-requires : goal.look_again-requires
look_again-requires c =
    let a = c.args in
    let e = c.recounted-v.ensures in
    (set_up_same a.w c.recounted-v.result (a.w.present + 1) a.w.in_use e c.requires.0.set_up, rw e (omega (arith, length-set a.marks.now a.i 1, c.requires.0.marks-long)), sound-inside c.recounted-v.result a.marks.now a.rows.now (sound-same a.w c.recounted-v.result (a.w.present + 1) a.w.in_use a.marks.now a.rows.now e c.requires.0.sound))

pub go_on-requires : goal.go_on-requires
go_on-requires c =
    let a = c.args in
    let x = parts a.media.now a.timestamps.now a.lengths.now a.marks.now a.parity.now a.rows.now in (
      serves-after a.w x _ (set a.timestamps.now a.i c.timestamp.result) (set a.lengths.now a.i (length (take (length a.datagram.now - rtp_header_size) (drop rtp_header_size a.datagram.now)))) (set a.marks.now a.i 1) _ c.recounted-v.result c.recounted-v.ensures c.requires.0 a.i (same_len_mid (a.i * a.w.p) (a.i * a.w.p + a.w.p - a.i * a.w.p) a.media.now c.lay.new.dst (omega (arith, c.lay.auto))) (length-set a.timestamps.now _ _) (length-set a.lengths.now _ _) refl c.look_again.ensures,
      rw c.recounted-v.ensures (omega (arith, c.requires.5, c.requires.6, c.requires.0.set_up.n-high)),
      omega arith,
      omega arith,
    )

pub returns : goal.returns
returns c =
    let a = c.args in
    let x = parts a.media.now a.timestamps.now a.lengths.now a.marks.now a.parity.now a.rows.now in (
      accepted a.w x (put_mid (a.i * a.w.p) (a.i * a.w.p + a.w.p - a.i * a.w.p) a.media.now c.lay.new.dst) (set a.timestamps.now a.i c.timestamp.result) (set a.lengths.now a.i (length (take (length a.datagram.now - rtp_header_size) (drop rtp_header_size a.datagram.now)))) (set a.marks.now a.i 1) _ c.recounted-v.result c.recounted-v.ensures c.look_again.ensures.alike (λ s. accept_media a.datagram.now (begun a.w s)) 0 0
          (λ t f. media-is a.w c.recounted-v.result a.datagram.now x t a.i c.timestamp.result _ c.recounted-v.ensures c.requires.2 c.timestamp.ensures (laid a.media.now a.datagram.now rtp_header_size (a.i * a.w.p) a.w.p c.lay.new.dst (omega (arith, row_ends a.i a.w.n a.w.p _ c.requires.3 c.requires.0.media-long)) c.lay.ensures)) c.go_on.result _ c.go_on.ensures,
      c.go_on.ensures.free,
    )
