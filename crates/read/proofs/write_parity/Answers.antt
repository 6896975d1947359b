-- `read::write_parity` meets its contract: each return is a way through `wrote_parity`. Assumes nothing.
use Rattle.std.proofs.Common.{◌≡◌, List, ◌+◌, sym, ap, ◌∙◌, ◌-◌, length, drop, length-drop, length-take, ltb-false, arith}
use Rattle.std.proofs.lemmas.Result.{err_from_is_err_and}
use Rattle.answer.specs.Refused.{fault_of, refusal_number}
use Rattle.answer.proofs.Refused.{never_0}
use Rattle.window.specs.declared.Record.{Record}
use Rattle.window.specs.Store.{Store, viewed}
use Rattle.window.specs.Plain.{inside_of}
use Rattle.calls.specs.Datagram.{Outer}
use Rattle.table.specs.View.{scatter}
use Rattle.read.proofs.Lay.{behind}
use Rattle.read.proofs.Ways.{said, write_stops, group-stops, lies-inside, write_done}
use Rattle.read.proofs.write_parity.Goals as goal

pub returns-in_err-check_standing : goal.returns-in_err-check_standing
returns-in_err-check_standing c =
    let a = c.args in
    let p = err_from_is_err_and c.from_residual.result c.from_residual.ensures.1 in
    let r = c.in_err-check_standing.field-0.0 in
    let lent : List Record → Store = λ t. viewed a.store (scatter a.rows.now t) in
    let o : Outer = record { sequence = a.sequence; timestamp = a.timestamp; ssrc = a.ssrc } in
    let e = said a.w a.store a.len a.rows.now _ (length a.out.now) (28 + a.w.p) (fault_of c.check_standing.result) c.check_standing.ensures in
    rw (p.1, p.2) (λ t l k. write_stops a.stream a.w a.snbase o (lent t) a.out.now (refusal_number r) (sym (ap fault_of c.in_err-check_standing.was) ∙ e t l k) (never_0 r))

pub check_group-requires : goal.check_group-requires
check_group-requires c = let s = (c.check_standing.ensures.none (ap fault_of c.in_ok-check_standing.was)) in (s.set_up, s.long.marks-long)

pub returns-in_err-check_group : goal.returns-in_err-check_group
returns-in_err-check_group c =
    let a = c.args in
    let p = err_from_is_err_and c.from_residual-in_err-check_group.result c.from_residual-in_err-check_group.ensures.1 in
    let r = c.in_err-check_group.field-0.0 in
    let lent : List Record → Store = λ t. viewed a.store (scatter a.rows.now t) in
    let o : Outer = record { sequence = a.sequence; timestamp = a.timestamp; ssrc = a.ssrc } in
    let e = said a.w a.store a.len a.rows.now _ (length a.out.now) (28 + a.w.p) (fault_of c.check_standing.result) c.check_standing.ensures in
    rw (p.1, p.2) (λ t l k. group-stops a.stream a.w a.snbase o (lent t) a.out.now (fault_of c.check_standing.result) (ap fault_of c.in_ok-check_standing.was) (refusal_number r) (sym (ap fault_of c.in_err-check_group.was) ∙ c.check_group.ensures) (e t l k) (never_0 r))

pub sum_up-r-requires : goal.sum_up-r-requires
sum_up-r-requires c =
    let a = c.args in
    let s = (c.check_standing.ensures.none (ap fault_of c.in_ok-check_standing.was)) in (
      s.set_up,
      inside_of a.w (omega (arith, c.well_formed)) s.set_up a.stream a.snbase (lies-inside a.w a.stream a.snbase a.store.marks.now (fault_of c.check_group.result) c.check_group.ensures (ap fault_of c.in_ok-check_group.was)),
      omega (arith, length-take (length a.out.now - 28) (drop 28 a.out.now), length-drop 28 a.out.now, ltb-false (length a.out.now) (28 + a.w.p) s.fits),
      s.long.media-long,
      s.long.timestamps-long,
      s.long.lengths-long,
      s.long.marks-long,
      s.lengths-low,
    )

pub returns : goal.returns
returns c =
    let a = c.args in
    let x = c.sum_up-r in
    let lent : List Record → Store = λ t. viewed a.store (scatter a.rows.now t) in
    let o : Outer = record { sequence = a.sequence; timestamp = a.timestamp; ssrc = a.ssrc } in
    let e = said a.w a.store a.len a.rows.now _ (length a.out.now) (28 + a.w.p) (fault_of c.check_standing.result) c.check_standing.ensures in
    λ t l k. write_done a.stream a.w a.snbase o (lent t) a.out.now (fault_of c.check_standing.result) (ap fault_of c.in_ok-check_standing.was) (fault_of c.check_group.result) c.check_group.ensures (e t l k) (ap fault_of c.in_ok-check_group.was) x.result.timestamp x.result.length x.result.size _ _ x.ensures.0 x.ensures.1 x.ensures.2 x.ensures.3 (behind a.out.now _ x.new.sum 28 x.result.size (omega (arith, ltb-false (length a.out.now) (28 + a.w.p) (c.check_standing.ensures.none (ap fault_of c.in_ok-check_standing.was)).fits)) x.ensures.4) c.write_parity.ensures
