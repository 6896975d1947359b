-- `order::look_at` meets its contract: each return by the tests that led there. Assumes nothing.
use mathlib.Core.Bool.{not}
use mathlib.Core.Path.{refl, sym, ap, ◌∙◌}
use borrow.Author.Tests.{not-false}
use Rattle.sequence.specs.Lists.{up_to, any}
use Rattle.rtp.specs.Length.{good_length}
use Rattle.window.specs.declared.Record.{Record}
use Rattle.table.specs.Note.{note-low}
use Rattle.order.specs.Rows.{names}
use Rattle.order.proofs.Look.{free_row_lem, odd-row, high-row, shapeless_row, lengthless_row, repeated-row, waiting-row, shape_inside}
use native.Mathlib.Omega.{arith}
use Rattle.order.proofs.look_at.Goals as goal

pub returns-then-v-eq0 : goal.returns-then-v-eq0
returns-then-v-eq0 c =
    let a = c.args in
    free_row_lem a.w a.marks.now a.rows.now a.i _ refl c.if-v-eq0.true

pub returns-then-v-ne1 : goal.returns-then-v-ne1
returns-then-v-ne1 c =
    let a = c.args in
    odd-row a.w a.marks.now a.rows.now a.i _ refl c.bad.result c.bad.ensures c.if-v-eq0.false c.if-v-ne1.true

pub returns-then-w-rows : goal.returns-then-w-rows
returns-then-w-rows c =
    let a = c.args in
    high-row a.w a.marks.now a.rows.now a.i _ refl c.bad-then-w-rows.result c.bad-then-w-rows.ensures c.if-v-ne1.false _ refl c.if-w-rows.true

pub returns-then-not-shape_good : goal.returns-then-not-shape_good
returns-then-not-shape_good c =
    let a = c.args in
    shapeless_row a.w a.marks.now a.rows.now a.i _ refl c.bad-then-not-shape_good.result c.bad-then-not-shape_good.ensures c.if-v-ne1.false c.shape_good.result c.shape_good.ensures (ap not c.if-not-shape_good.true)

pub returns-then-not-good_length : goal.returns-then-not-good_length
returns-then-not-good_length c =
    let a = c.args in
    lengthless_row a.w a.marks.now a.rows.now a.i _ refl c.bad-then-not-good_length.result c.bad-then-not-good_length.ensures c.if-v-ne1.false c.good_length.result (c.good_length.ensures ∙ ap (good_length a.w.p) c.wide.ensures.0) (ap not c.if-not-good_length.true)

pub repeats-requires : goal.repeats-requires
repeats-requires c = (omega (arith, c.requires.2), λ f. c.requires.3 f)

pub returns-then-repeats : goal.returns-then-repeats
returns-then-repeats c =
    let a = c.args in
    repeated-row a.w a.marks.now a.rows.now a.i _ refl c.bad-then-repeats.result c.bad-then-repeats.ensures c.if-v-ne1.false c.repeats.result c.repeats.ensures c.if-repeats.true

pub look-found-requires : goal.look-found-requires
look-found-requires c = (c.requires.0, shape_inside c.args.w (omega (arith, c.well_formed)) c.requires.0 _ _ (sym c.shape_good.ensures ∙ not-false _ (ap not c.if-not-shape_good.false)), c.requires.1)

pub note_of-requires : goal.note_of-requires
note_of-requires c = omega (arith, note-low c.look-found.result c.args.w.n c.look-found.ensures.1, c.requires.0.n-high)

pub returns : goal.returns
returns c =
    let a = c.args in
    waiting-row a.w a.marks.now a.rows.now a.i _ refl c.requires.0 (omega (arith, c.well_formed)) c.if-v-ne1.false _ refl c.if-w-rows.false c.shape_good.result c.shape_good.ensures (ap not c.if-not-shape_good.false) c.good_length.result (c.good_length.ensures ∙ ap (good_length a.w.p) c.wide.ensures.0) (ap not c.if-not-good_length.false) c.repeats.result c.repeats.ensures c.if-repeats.false c.look-found.result c.look-found.ensures.0 c.waits.result c.waits.ensures c.note_of.result c.note_of.ensures
