-- `open::check_open` meets its contract: each return by the tests that led there. Assumes nothing.
use Rattle.std.proofs.Common.{sym, ap, ◌∙◌, refl}
use Rattle.std.proofs.lemmas.Result.{err_from_is_err_and}
use Rattle.answer.specs.Refused.{fault_of, refusal_number}
use Rattle.answer.proofs.Refused.{never_0}
use Rattle.window.specs.Bounds.{set_up_good}
use Rattle.open.proofs.Ways.{set_up-stops, short-stops, none-stops}
use Rattle.open.proofs.check_open.Goals as goal

pub returns-in_err-check_set_up : goal.returns-in_err-check_set_up
returns-in_err-check_set_up c =
    let p = err_from_is_err_and c.from_residual.result c.from_residual.ensures.1 in
    let r = c.in_err-check_set_up.field-0.0 in
    rw (p.1, p.2) (set_up-stops c.args.w c.args.z (refusal_number r) c.in_err-check_set_up.ensures (never_0 r))

pub short_store-requires : goal.short_store-requires
short_store-requires c = set_up_good c.args.w (sym c.in_ok-check_set_up.ensures)

pub returns-then-short_store : goal.returns-then-short_store
returns-then-short_store c = short-stops c.args.w c.args.z _ c.in_ok-check_set_up.ensures refl (sym c.short_store.ensures ∙ c.if-short_store.true)

pub returns : goal.returns
returns c = none-stops c.args.w c.args.z _ c.in_ok-check_set_up.ensures refl (sym c.short_store.ensures ∙ c.if-short_store.false)
