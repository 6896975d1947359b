-- `order::rows_good` meets its contract: after i turns the first i rows are looked at, and what is found noted. Assumes nothing.
use Rattle.std.proofs.Common.{◌≡◌, refl, sym, ap, ◌∙◌, true, ◌%◌, length, length-set, arith, eqb-true}
use Rattle.window.specs.declared.Record.{Record}
use Rattle.table.specs.Apart.{alike-length, alike-it}
use Rattle.order.proofs.Turns.{none-turned, ended, few-turned, turned}
use Rattle.order.proofs.Seen.{none_seen, more-seen, fresh}
use Rattle.order.proofs.rows_good.Goals as goal

pub returns-then-is_empty : goal.returns-then-is_empty
returns-then-is_empty c =
    let a = c.args in
    ended a.w a.marks.now a.rows.now a.rows.now true 0 0 (none-turned a.w a.marks.now a.rows.now) (length a.rows.now) (sym (eqb-true _ 0 (sym c.is_empty.ensures ∙ c.if-is_empty.true))) refl

pub loop-i-init : goal.loop-i-init
loop-i-init c = let a = c.args in (none-turned a.w a.marks.now a.rows.now, refl, refl, none_seen a.rows.now _)

pub bounds-seen-at : goal.bounds-seen-at
bounds-seen-at c = omega (arith, c.seen_at-at.ensures.1, c.loop-i.invariant.2)

pub look_at-r-requires : goal.look_at-r-requires
look_at-r-requires c =
    let l = c.loop-i in
    (c.requires.0, c.requires.1, omega (arith, alike-length l.invariant.0.alike), fresh c.args.rows.now l.rows l.invariant.0.alike l.seen l.i c.seen_at-at.result c.seen_at-at.ensures.0 l.invariant.3)

pub overflow_add-used : goal.overflow_add-used
overflow_add-used c =
    let a = c.args in
    let l = c.loop-i in
    let r = c.look_at-r in
    omega (arith, few-turned a.w a.marks.now a.rows.now l.rows l.good l.used l.i l.invariant.0 r.result.good r.result.used r.result.note r.ensures)

pub loop-i-preserved : goal.loop-i-preserved
loop-i-preserved c =
    let a = c.args in
    let l = c.loop-i in
    let r = c.look_at-r in
    let s = c.seen_at-at in (
      turned a.w a.marks.now a.rows.now l.rows l.good l.used l.i l.invariant.0 r.result.good r.result.used r.result.note r.ensures (omega (arith, alike-length l.invariant.0.alike)) _ refl,
      length-set l.rows _ _ ∙ l.invariant.1,
      length-set l.seen _ _ ∙ l.invariant.2,
      more-seen a.rows.now l.seen l.i s.result (s.ensures.0 ∙ ap (λ (v : Record). v.snbase % 512) (alike-it l.invariant.0.alike l.i)) (omega (arith, s.ensures.1, l.invariant.2)) l.invariant.3,
    )

pub returns : goal.returns
returns c =
    let a = c.args in
    let l = c.loop-i in
    ended a.w a.marks.now a.rows.now l.rows l.good l.used l.i l.invariant.0 (length a.rows.now) (omega arith) refl
