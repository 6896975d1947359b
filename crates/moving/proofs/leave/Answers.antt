-- `moving::leave` meets its contract: the packet is laid behind its header with zeros behind it, or all is zero. Assumes nothing.
use Rattle.std.proofs.Common.{◌≡◌, refl, sym, ap, ap₂, ◌∙◌, List, ℕ, ◌+◌, ◌*◌, ◌-◌, ◌≤◌, arith, length, get_or, take, drop, replicate, length-take-le, length-drop, ne_eqb}
use Rattle.std.proofs.lemmas.List.{length-replicate}
use Rattle.std.proofs.lemmas.List.Edits.{sets}
use Rattle.std.proofs.lemmas.Slice.{put_mid-paste}
use borrow.Rule.Slice.PartMut.{put_mid}
use Rattle.rtp.specs.Rtp.{rtp_header, media_type}
use Rattle.xor.specs.Xor.{padded}
use Rattle.xor.specs.Padded.{length-padded}
use Rattle.group.proofs.Rows.{row_ends}
use Rattle.moving.specs.Lies.{held_in}
use Rattle.moving.proofs.Slots.{lost_slot, lost_size, held-slot, held-size}
use Rattle.moving.proofs.leave.Goals as goal

pub returns-then-store-i-eq0 : goal.returns-then-store-i-eq0
returns-then-store-i-eq0 c =
    let a = c.args in
    let s = held_in a.store in
    let n : ℕ = 12 + a.w.p in
    let long : length (take n a.out.now) ≡ n = length-take-le n a.out.now c.requires.2 in
    let fill = c.fill.ensures.after (λ y e. e) ∙ ap (λ (k : ℕ). replicate k 0) long in
    let is : put_mid 0 n a.out.now c.fill.new.self ≡ _ = put_mid-paste 0 n a.out.now c.fill.new.self (replicate n 0) n fill refl (sym (length-replicate {A = ℕ} n 0)) in
    (lost_slot a.w s a.i c.if-store-i-eq0.true a.out.now _ is, lost_size a.w s a.i c.if-store-i-eq0.true, omega arith)

pub overflow_mul-at : goal.overflow_mul-at
overflow_mul-at c =
    let a = c.args in
    let l = c.requires.1 in
    omega (arith, row_ends a.i a.w.n a.w.p (length a.store.media.now) c.requires.0 l.media-long, c.well_formed)

pub slice_bounds-lay-end : goal.slice_bounds-lay-end
slice_bounds-lay-end c =
    let a = c.args in
    let l = c.requires.1 in
    let size = c.wide-size in
    let low : size.result ≤ a.w.p = rw size.ensures.0 (l.lengths-low a.i c.requires.0 (ne_eqb (get_or a.store.marks.now a.i 0) 0 c.if-store-i-eq0.false)) in
    let ends = row_ends a.i a.w.n a.w.p (length a.store.media.now) c.requires.0 l.media-long in
    omega (arith, low, ends)

pub returns : goal.returns
returns c =
    let a = c.args in
    let l = c.requires.1 in
    let size = c.wide-size in
    let s = held_in a.store in
    let low : size.result ≤ a.w.p = rw size.ensures.0 (l.lengths-low a.i c.requires.0 (ne_eqb (get_or a.store.marks.now a.i 0) 0 c.if-store-i-eq0.false)) in
    let ends = row_ends a.i a.w.n a.w.p (length a.store.media.now) c.requires.0 l.media-long in
    let at : ℕ = a.i * a.w.p in
    let y : List ℕ = take size.result (drop at a.store.media.now) in
    let k : 12 + a.w.p - 12 ≡ a.w.p = omega arith in
    let n : at + size.result - at ≡ size.result = omega arith in
    let long : length (take (12 + a.w.p - 12) (drop 12 a.out.now)) ≡ a.w.p = length-take-le (12 + a.w.p - 12) (drop 12 a.out.now) (omega (arith, length-drop 12 a.out.now, c.requires.2)) ∙ k in
    let part : c.lay.new.dst ≡ padded a.w.p y = c.lay.ensures ∙ ap₂ (λ (p m : ℕ). padded p (take m (drop at a.store.media.now))) long n in
    let lies = put_mid-paste 12 (12 + a.w.p - 12) a.out.now c.lay.new.dst (padded a.w.p y) a.w.p part (sym k) (sym (length-padded a.w.p y)) in
    let out : List ℕ = put_mid 12 (12 + a.w.p - 12) a.out.now c.lay.new.dst in (
      held-slot a.w s a.i c.if-store-i-eq0.false size.result size.ensures.0 low ends a.out.now out _ c.requires.2 lies
          (c.write_rtp.ensures ∙ ap (λ (n : ℕ). sets out 0 (rtp_header media_type n (get_or a.store.timestamps.now a.i 0) a.w.ssrc)) c.next-number.ensures),
      held-size a.w s a.i c.if-store-i-eq0.false size.result size.ensures.0 low ends,
      omega (arith, low, l.set_up.p-high),
    )
