-- `load::entry` meets its contract.
use Rattle.std.proofs.Common.{ap, ◌∙◌, arith, zero-le}
use Rattle.capture.specs.Content.{table_end}
use Rattle.capture.proofs.Claims.{few-entries}
use Rattle.load.proofs.Front.{entry_none, entry_past, entry_good, size-bytes, start-bytes}
use Rattle.load.proofs.entry.Goals as goal

pub returns-in_err-h : goal.returns-in_err-h
returns-in_err-h c = rw c.from_residual.ensures (entry_none c.args.front.now c.args.i _ (ap (λ h. h.count) c.in_err-h.ensures) zero-le)

pub returns-then-h-i : goal.returns-then-h-i
returns-then-h-i c = entry_none c.args.front.now c.args.i _ (ap (λ h. h.count) c.in_ok-h.ensures) c.if-h-i.true

pub returns-then-front-i : goal.returns-then-front-i
returns-then-front-i c = entry_past c.args.front.now c.args.i _ (ap (λ h. h.count) c.in_ok-h.ensures) c.if-h-i.false c.if-front-i.true

pub overflow_mul-i : goal.overflow_mul-i
overflow_mul-i c = omega (arith, few-entries c.args.front.now, ap (λ h. h.count) c.in_ok-h.ensures, c.if-h-i.false)

pub overflow_add-i-2 : goal.overflow_add-i-2
overflow_add-i-2 c = omega (arith, few-entries c.args.front.now, ap (λ h. h.count) c.in_ok-h.ensures, c.if-h-i.false)

pub at32-requires : goal.at32-requires
at32-requires c = omega (arith, few-entries c.args.front.now, ap (λ h. h.count) c.in_ok-h.ensures, c.if-h-i.false)

pub at16-requires : goal.at16-requires
at16-requires c = omega (arith, few-entries c.args.front.now, ap (λ h. h.count) c.in_ok-h.ensures, c.if-h-i.false)

pub returns : goal.returns
returns c =
    let f = c.args.front.now in
    let i = c.args.i in
    entry_good f i _ (ap (λ h. h.count) c.in_ok-h.ensures) _ _ _ c.if-h-i.false c.if-front-i.false c.byte_at.ensures (c.at32.ensures ∙ start-bytes f (table_end i)) (c.at16.ensures ∙ size-bytes f (table_end i))
