-- `read::read_out` meets its contract: each return is a way through `read_out`. Assumes nothing.
use Rattle.std.proofs.Common.{◌≡◌, List, ◌+◌, ◌*◌, ◌-◌, ◌<◌, ◌≤◌, refl, sym, ap, ◌∙◌, length, drop, length-drop, ltb-false, arith}
use Rattle.std.proofs.lemmas.Result.{err_from_is_err_and}
use Rattle.answer.specs.Refused.{fault_of, refusal_number}
use Rattle.answer.proofs.Refused.{never_0}
use Rattle.window.specs.declared.Record.{Record}
use Rattle.window.specs.Store.{Store, viewed}
use Rattle.group.proofs.Rows.{row_ends}
use Rattle.table.specs.View.{scatter}
use Rattle.read.proofs.Lay.{copied}
use Rattle.read.proofs.Ways.{said, held_low, read-stops, read-outside, read-missing, read_done}
use Rattle.read.proofs.read_out.Goals as goal

pub returns-in_err-check_standing : goal.returns-in_err-check_standing
returns-in_err-check_standing c =
    let a = c.args in
    let p = err_from_is_err_and c.from_residual.result c.from_residual.ensures.1 in
    let r = c.in_err-check_standing.field-0.0 in
    let lent : List Record → Store = λ t. viewed a.store (scatter a.rows.now t) in
    let e = said a.w a.store a.len a.rows.now _ (length a.out.now) (12 + a.w.p) (fault_of c.check_standing.result) c.check_standing.ensures in
    rw (p.1, p.2) (λ t l k. read-stops a.w a.number (lent t) a.out.now (refusal_number r) (sym (ap fault_of c.in_err-check_standing.was) ∙ e t l k) (never_0 r))

pub returns-then-w-i : goal.returns-then-w-i
returns-then-w-i c =
    let a = c.args in
    let i = c.position-i in
    let lent : List Record → Store = λ t. viewed a.store (scatter a.rows.now t) in
    let e = said a.w a.store a.len a.rows.now _ (length a.out.now) (12 + a.w.p) (fault_of c.check_standing.result) c.check_standing.ensures in
    λ t l k. read-outside a.w a.number (lent t) a.out.now (fault_of c.check_standing.result) (ap fault_of c.in_ok-check_standing.was) i.result i.ensures (e t l k) c.if-w-i.true

pub returns-then-store-i-eq0 : goal.returns-then-store-i-eq0
returns-then-store-i-eq0 c =
    let a = c.args in
    let i = c.position-i in
    let lent : List Record → Store = λ t. viewed a.store (scatter a.rows.now t) in
    let e = said a.w a.store a.len a.rows.now _ (length a.out.now) (12 + a.w.p) (fault_of c.check_standing.result) c.check_standing.ensures in
    λ t l k. read-missing a.w a.number (lent t) a.out.now (fault_of c.check_standing.result) (ap fault_of c.in_ok-check_standing.was) i.result i.ensures (e t l k) c.if-w-i.false c.if-store-i-eq0.true

pub slice_bounds-payload-end : goal.slice_bounds-payload-end
slice_bounds-payload-end c =
    let a = c.args in
    let i = c.position-i in
    let s = (c.check_standing.ensures.none (ap fault_of c.in_ok-check_standing.was)) in
    let low = held_low a.store.lengths.now a.store.marks.now s i.result c.if-w-i.false c.if-store-i-eq0.false c.wide-size.result c.wide-size.ensures.0 in
    let row = row_ends i.result a.w.n a.w.p (length a.store.media.now) c.if-w-i.false s.long.media-long in
    omega (arith, low, row)

pub returns : goal.returns
returns c =
    let a = c.args in
    let i = c.position-i in
    let n = c.wide-size in
    let s = (c.check_standing.ensures.none (ap fault_of c.in_ok-check_standing.was)) in
    let lent : List Record → Store = λ t. viewed a.store (scatter a.rows.now t) in
    let e = said a.w a.store a.len a.rows.now _ (length a.out.now) (12 + a.w.p) (fault_of c.check_standing.result) c.check_standing.ensures in
    let low = held_low a.store.lengths.now a.store.marks.now s i.result c.if-w-i.false c.if-store-i-eq0.false n.result n.ensures.0 in
    let row = row_ends i.result a.w.n a.w.p (length a.store.media.now) c.if-w-i.false s.long.media-long in
    let long : n.result ≤ length (drop (i.result * a.w.p) a.store.media.now) = omega (arith, low, row, length-drop (i.result * a.w.p) a.store.media.now) in
    λ t l k. read_done a.w a.number (lent t) a.out.now (fault_of c.check_standing.result) (ap fault_of c.in_ok-check_standing.was) i.result i.ensures (e t l k) c.if-w-i.false c.if-store-i-eq0.false n.result n.ensures.0 low _ _
    (copied a.out.now a.store.media.now c.copy_from_slice.new.self 12 (i.result * a.w.p) n.result (12 + n.result - 12) (omega arith) long c.copy_from_slice.ensures.after) c.write_rtp.ensures
