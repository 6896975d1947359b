-- `order::check_standing` meets its contract: each return by the tests that led there. Assumes nothing.
use Rattle.std.proofs.Common.{ap, sym, ◌∙◌, not, arith}
use Rattle.std.proofs.lemmas.Result.{err_from_is_err_and}
use Rattle.answer.specs.Refused.{refusal_number}
use Rattle.answer.proofs.Refused.{never_0}
use Rattle.window.specs.Bounds.{set_up_good}
use Rattle.order.proofs.Ways.{set_up_way, short_way, long_way, order_way, none_way}
use Rattle.order.proofs.check_standing.Goals as goal

pub returns-in_err-check_set_up : goal.returns-in_err-check_set_up
returns-in_err-check_set_up c =
    let a = c.args in
    let p = err_from_is_err_and c.from_residual.result c.from_residual.ensures.1 in
    let r = c.in_err-check_set_up.field-0.0 in
    rw (p.1, p.2) (set_up_way a.w a.z a.short a.lengths.now a.marks.now a.rows.now (refusal_number r) c.in_err-check_set_up.ensures (never_0 r))

pub short_store-requires : goal.short_store-requires
short_store-requires c = set_up_good c.args.w (sym c.in_ok-check_set_up.ensures)

pub returns-then-short_store-short : goal.returns-then-short_store-short
returns-then-short_store-short c =
    let a = c.args in
    short_way a.w a.z a.short a.lengths.now a.marks.now a.rows.now (sym c.in_ok-check_set_up.ensures) c.short_store.result c.short_store.ensures c.if-short_store-short.true

pub in_order-requires : goal.in_order-requires
in_order-requires c =
    let a = c.args in
    let ok = sym c.in_ok-check_set_up.ensures in
    let long = long_way a.w a.z a.short a.lengths.now a.marks.now a.rows.now ok c.short_store.result c.short_store.ensures c.if-short_store-short.false in
    (set_up_good a.w ok, omega (arith, c.requires.0, long.lengths-long), omega (arith, c.requires.1, long.marks-long))

pub returns-then-not-in_order : goal.returns-then-not-in_order
returns-then-not-in_order c =
    let a = c.args in
    order_way a.w a.z a.short a.lengths.now a.marks.now a.rows.now (sym c.in_ok-check_set_up.ensures) c.short_store.result c.short_store.ensures c.if-short_store-short.false c.in_order.new.rows c.in_order.result c.in_order.ensures (ap not c.if-not-in_order.true)

pub returns : goal.returns
returns c =
    let a = c.args in
    none_way a.w a.z a.short a.lengths.now a.marks.now a.rows.now (sym c.in_ok-check_set_up.ensures) c.short_store.result c.short_store.ensures c.if-short_store-short.false c.in_order.new.rows c.in_order.result c.in_order.ensures (ap not c.if-not-in_order.false)
