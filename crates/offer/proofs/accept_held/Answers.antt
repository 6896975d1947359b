-- `offer::accept_held` meets its contract. Assumes nothing.
use mathlib.Core.Path.{refl, ap, ◌∙◌}
use mathlib.Core.List.{List}
use Prim.Native.Nat.{ℕ, ◌*◌, ◌<◌}
use lib.Seq.{paste}
use lib.ListN.{drop, length-drop}
use Rattle.xor.specs.Xor.{padded}
use Rattle.rtp.specs.Fec.{parity_header_size}
use Rattle.group.proofs.Rows.{row_ends}
use Rattle.offer.proofs.Tests.{rest-is, rest-long, part-long, laid}
use native.Mathlib.Omega.{arith}
use Rattle.offer.proofs.accept_held.Goals as goal

pub overflow_mul-at : goal.overflow_mul-at
overflow_mul-at c =
    let a = c.args in
    let low : c.first_free.result < a.w.k = rw c.first_free.ensures.is c.requires.1 in
    omega (arith, row_ends c.first_free.result a.w.k a.w.p _ low c.requires.0, c.well_formed)

pub slice_bounds-lay-end : goal.slice_bounds-lay-end
slice_bounds-lay-end c =
    let a = c.args in
    let low : c.first_free.result < a.w.k = rw c.first_free.ensures.is c.requires.1 in
    omega (arith, row_ends c.first_free.result a.w.k a.w.p _ low c.requires.0)

pub lay-requires : goal.lay-requires
lay-requires c =
    let a = c.args in
    let low : c.first_free.result < a.w.k = rw c.first_free.ensures.is c.requires.1 in
    let room = part-long a.parity.now (c.first_free.result * a.w.p) a.w.p (omega (arith, row_ends c.first_free.result a.w.k a.w.p _ low c.requires.0)) in
    omega (arith, room, rest-long parity_header_size a.datagram.now, c.requires.2.1)

pub overflow_add-w : goal.overflow_add-w
overflow_add-w c = omega (arith, c.requires.3)

pub returns : goal.returns
returns c =
    let a = c.args in
    let e = c.first_free.ensures.is in
    let low : c.first_free.result < a.w.k = rw e c.requires.1 in
    record {
      counts = refl;
      windows = c.recounted-window.ensures;
      changes = refl;
      holds = rw (c.snbase.ensures, c.timestamp_recovery.ensures, c.length_recovery.ensures, rest-is parity_header_size a.datagram.now);
      lies = laid a.parity.now a.datagram.now parity_header_size (c.first_free.result * a.w.p) a.w.p c.lay.new.dst (omega (arith, row_ends c.first_free.result a.w.k a.w.p _ low c.requires.0)) c.lay.ensures
          ∙ ap (λ (l : List ℕ). paste a.parity.now (c.first_free.result * a.w.p) (padded a.w.p l) a.w.p) (rest-is parity_header_size a.datagram.now)
          ∙ ap (λ (n : ℕ). paste a.parity.now (n * a.w.p) (padded a.w.p (drop parity_header_size a.datagram.now)) a.w.p) e;
    }
