-- `read::check_group` meets its contract: each return by the tests that led there. Assumes nothing.
-- what the code asks of a look is the test of refusal 17
use mathlib.Core.Path.{◌≡◌, sym, ap, ◌∙◌}
use mathlib.Core.Bool.{Bool, not}
use mathlib.Core.List.{List}
use Prim.Native.Nat.{ℕ}
use lib.Dec.{ltb}
use Rattle.answer.specs.First.{first_hit, first_past, first-end}
use Rattle.sequence.specs.Lists.{any}
use Rattle.window.specs.declared.Look.{Look}
use Rattle.window.specs.Group.{group, is_missing}
use Rattle.window.specs.Look.{look, at_least, lacks_is}
use Rattle.window.specs.Plain.{inside_of}
use native.Mathlib.Omega.{arith}
use Rattle.read.proofs.check_group.Goals as goal

told : (marks g : List ℕ) (f : Look) (b : Bool) → f ≡ look marks g → b ≡ ltb 0 (at_least f) → b ≡ any (is_missing marks) g
told marks g f b ef eb = eb ∙ ap (λ (x : Look). ltb 0 (at_least x)) ef ∙ lacks_is marks g

pub returns-then-no_row : goal.returns-then-no_row
returns-then-no_row c =
    let the-no-row = c.no_row in
    let the-if1 = c.if-no_row in
    first_hit _ _ _ (sym the-no-row.ensures ∙ the-if1.true)

pub group_inside-requires : goal.group_inside-requires
group_inside-requires c =
    let the-pre = c.requires in
    the-pre.0

pub returns-then-not-group_inside : goal.returns-then-not-group_inside
returns-then-not-group_inside c =
    let the-no-row = c.no_row in
    let the-if1 = c.if-no_row in
    let the-group-inside = c.group_inside in
    let the-if2 = c.if-not-group_inside in
    first_past _ _ _ _ (sym the-no-row.ensures ∙ the-if1.false) (first_hit _ _ _ (ap not (sym the-group-inside.ensures) ∙ (ap not the-if2.true)))

pub look-requires : goal.look-requires
look-requires c =
    let the-pre = c.requires in
    let the-args = c.args in
    let the-good = c.well_formed in
    let the-group-inside = c.group_inside in
    let the-if2 = c.if-not-group_inside in
    (the-pre.0, inside_of the-args.w (omega (arith, the-good)) the-pre.0 the-args.stream the-args.snbase (sym the-group-inside.ensures ∙ the-if2.false), the-pre.1)

pub returns-then-lacks : goal.returns-then-lacks
returns-then-lacks c =
    let the-no-row = c.no_row in
    let the-if1 = c.if-no_row in
    let the-group-inside = c.group_inside in
    let the-if2 = c.if-not-group_inside in
    let the-args = c.args in
    let the-look = c.look in
    let the-if3 = c.if-lacks in
    first_past _ _ _ _ (sym the-no-row.ensures ∙ the-if1.false)
    (first_past _ _ _ _ (ap not (sym the-group-inside.ensures) ∙ (ap not the-if2.false))
    (first_hit _ _ _ (sym (told the-args.marks.now (group the-args.w the-args.stream the-args.snbase) the-look.result c.lacks.result the-look.ensures.0 c.lacks.ensures) ∙ the-if3.true)))

pub returns : goal.returns
returns c =
    let the-no-row = c.no_row in
    let the-if1 = c.if-no_row in
    let the-group-inside = c.group_inside in
    let the-if2 = c.if-not-group_inside in
    let the-args = c.args in
    let the-look = c.look in
    let the-if3 = c.if-lacks in
    first_past _ _ _ _ (sym the-no-row.ensures ∙ the-if1.false)
    (first_past _ _ _ _ (ap not (sym the-group-inside.ensures) ∙ (ap not the-if2.false))
    (first_past _ _ _ _ (sym (told the-args.marks.now (group the-args.w the-args.stream the-args.snbase) the-look.result c.lacks.result the-look.ensures.0 c.lacks.ensures) ∙ the-if3.false) first-end))
