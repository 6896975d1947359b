-- `engine::is_member` meets its contract: a group inside the window is a line. Assumes nothing.
use mathlib.Core.Path.{ap, ◌∙◌}
use lib.Dec.{eqb}
use Rattle.sequence.specs.Lists.{count}
use Rattle.window.specs.Plain.{shape_of, group_plain}
use native.Mathlib.Omega.{arith}
use Rattle.engine.proofs.is_member.Goals as goal

pub on_line-requires : goal.on_line-requires
on_line-requires c =
    let the-args = c.args in
    let the-pre = c.requires in
    let the-offset-of = c.offset_of-offset in
    let the-na-of = c.na_of-na in
    let the-position = c.position-at in
    let s = shape_of the-args.w.l the-args.w.d the-args.stream the-pre.profile in
    (omega (arith, the-offset-of.ensures, s.step_low), omega (arith, the-offset-of.ensures, s.step_high), omega (arith, the-na-of.ensures, s.na-high), omega (arith, the-position.type_inv))

pub returns : goal.returns
returns c =
    let the-args = c.args in
    let the-good = c.well_formed in
    let the-pre = c.requires in
    let the-position = c.position-at in
    let the-offset-of = c.offset_of-offset in
    let the-na-of = c.na_of-na in
    let the-on-line = c.on_line in
    λ i. ap (count (eqb the-args.i)) (group_plain the-args.w (omega (arith, the-good)) the-pre the-args.stream the-args.snbase i) ∙ rw (← the-position.ensures, ← the-offset-of.ensures, ← the-na-of.ensures) the-on-line.ensures
