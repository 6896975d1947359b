-- `offer::check_media_place` meets its contract: each return by the tests that led there. Assumes nothing.
use Rattle.std.proofs.Common.{◌≡◌, sym, ap, ◌∙◌, Bool, List, ℕ, ◌+◌, ◌*◌, ◌-◌, length, get_or, take, drop}
use Rattle.xor.specs.Same.{same}
use Rattle.rtp.specs.Rtp.{rtp_header_size}
use Rattle.offer.proofs.Tests.{rest-long, rest-part}
use Rattle.sequence.specs.Wrap.{ahead}
use Rattle.window.specs.Limits.{width}
use Rattle.window.specs.Store.{stored}
use Rattle.group.proofs.Rows.{row_ends}
use Rattle.offer.proofs.Place.{outside, free, otherwise_long, repeated, differs}
use native.Mathlib.Omega.{arith}
use Rattle.offer.proofs.check_media_place.Goals as goal

-- what is compared is as long as the rest of the datagram
compared : (is : Bool) (media : List ℕ) (at : ℕ) (g : List ℕ) → is ≡ same (take (at + length (take (length g - rtp_header_size) (drop rtp_header_size g)) - at) (drop at media)) (take (length g - rtp_header_size) (drop rtp_header_size g))
    → is ≡ same (take (length g - rtp_header_size) (drop at media)) (take (length g - rtp_header_size) (drop rtp_header_size g))
compared is media at g e = e ∙ ap (λ (n : ℕ). same (take n (drop at media)) (take (length g - rtp_header_size) (drop rtp_header_size g))) (rest-part rtp_header_size at g)

pub returns-then-w-i : goal.returns-then-w-i
returns-then-w-i c =
    let a = c.args in
    record { fault = λ parity t. outside a.w a.datagram.now (stored a.media.now a.timestamps.now a.lengths.now a.marks.now parity t) c.position-i.result (c.position-i.ensures ∙ ap (ahead width a.w.base) c.sequence_number.ensures) c.if-w-i.true; place = tt }

pub bounds-marks-i : goal.bounds-marks-i
bounds-marks-i c = omega (arith, c.if-w-i.false, c.requires.5)

pub returns-then-marks-i-eq0 : goal.returns-then-marks-i-eq0
returns-then-marks-i-eq0 c =
    let a = c.args in
    let e = c.position-i.ensures ∙ ap (ahead width a.w.base) c.sequence_number.ensures in
    record { fault = λ parity t. free a.w a.datagram.now (stored a.media.now a.timestamps.now a.lengths.now a.marks.now parity t) c.position-i.result e c.if-w-i.false c.if-marks-i-eq0.true; place = (e, c.if-w-i.false, c.if-marks-i-eq0.true) }

pub offset_bounds-lengths-i : goal.offset_bounds-lengths-i
offset_bounds-lengths-i c = omega (arith, c.if-w-i.false, c.requires.0.n-high)

pub bounds-lengths-i : goal.bounds-lengths-i
bounds-lengths-i c = omega (arith, c.if-w-i.false, c.requires.4)

pub returns-then-wide-size : goal.returns-then-wide-size
returns-then-wide-size c =
    let a = c.args in
    let e = c.position-i.ensures ∙ ap (ahead width a.w.base) c.sequence_number.ensures in
    record { fault = λ parity t. otherwise_long a.w a.datagram.now (stored a.media.now a.timestamps.now a.lengths.now a.marks.now parity t) c.position-i.result e c.if-w-i.false c.if-marks-i-eq0.false (λ z. c.if-wide-size.true (c.wide.ensures.0 ∙ z ∙ sym (rest-long rtp_header_size a.datagram.now))); place = tt }

pub offset_bounds-timestamps-i : goal.offset_bounds-timestamps-i
offset_bounds-timestamps-i c = omega (arith, c.if-w-i.false, c.requires.0.n-high)

pub bounds-timestamps-i : goal.bounds-timestamps-i
bounds-timestamps-i c = omega (arith, c.if-w-i.false, c.requires.3)

pub overflow_mul-at : goal.overflow_mul-at
overflow_mul-at c = omega (arith, row_ends c.position-i.result c.args.w.n c.args.w.p _ c.if-w-i.false c.requires.2, c.well_formed)

pub slice_bounds-same-end : goal.slice_bounds-same-end
slice_bounds-same-end c =
    let ends = row_ends c.position-i.result c.args.w.n c.args.w.p _ c.if-w-i.false c.requires.2 in
    omega (arith, ends, c.requires.1.0, c.requires.1.1, rest-long rtp_header_size c.args.datagram.now)

pub returns-then-timestamps-i : goal.returns-then-timestamps-i
returns-then-timestamps-i c =
    let a = c.args in
    let e = c.position-i.ensures ∙ ap (ahead width a.w.base) c.sequence_number.ensures in
    record { fault = λ parity t. repeated a.w a.datagram.now (stored a.media.now a.timestamps.now a.lengths.now a.marks.now parity t) c.position-i.result e c.if-w-i.false c.if-marks-i-eq0.false c.timestamp.result c.same.result c.timestamp.ensures (sym c.wide.ensures.0 ∙ c.if-wide-size.false ∙ rest-long rtp_header_size a.datagram.now) (compared c.same.result a.media.now (c.position-i.result * a.w.p) a.datagram.now c.same.ensures) c.requires.1 (row_ends c.position-i.result a.w.n a.w.p _ c.if-w-i.false c.requires.2) c.if-timestamps-i.true; place = tt }

pub returns : goal.returns
returns c =
    let a = c.args in
    let e = c.position-i.ensures ∙ ap (ahead width a.w.base) c.sequence_number.ensures in
    record { fault = λ parity t. differs a.w a.datagram.now (stored a.media.now a.timestamps.now a.lengths.now a.marks.now parity t) c.position-i.result e c.if-w-i.false c.if-marks-i-eq0.false c.timestamp.result c.same.result c.timestamp.ensures (sym c.wide.ensures.0 ∙ c.if-wide-size.false ∙ rest-long rtp_header_size a.datagram.now) (compared c.same.result a.media.now (c.position-i.result * a.w.p) a.datagram.now c.same.ensures) c.requires.1 (row_ends c.position-i.result a.w.n a.w.p _ c.if-w-i.false c.requires.2) c.if-timestamps-i.false; place = tt }
