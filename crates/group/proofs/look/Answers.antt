-- `group::look` meets its contract: the members are those of the group. Assumes nothing.
use Rattle.std.proofs.Common.{sym, ap, ◌∙◌, List, ℕ, arith}
use Rattle.window.specs.Look.{look}
use Rattle.group.proofs.Along.{along-group}
use Rattle.group.proofs.Rows.{one_below}
use Rattle.group.proofs.look.Goals as goal

pub returns : goal.returns
returns c =
    let the-look-along = c.look_along in
    let the-args = c.args in
    let the-good = c.well_formed in
    let the-pre = c.requires in
    let the-offset-of = c.offset_of-offset in
    let the-na-of = c.na_of-na in
    let e = the-look-along.ensures ∙ ap (λ (l : List ℕ). look the-args.marks.now l) (along-group the-args.w (omega (arith, the-good)) the-pre.0 the-args.stream the-args.snbase the-pre.1 the-offset-of.result the-na-of.result the-offset-of.ensures the-na-of.ensures) in
    (e, λ i v h. one_below the-args.w (omega (arith, the-good)) the-pre.0 the-args.stream the-args.snbase the-pre.1 the-args.marks.now i v (sym e ∙ h))
