-- `engine::look_again_at` meets its contract: a free row stays, and so does one whose group has not the position. Assumes nothing.
use mathlib.Core.Path.{refl}
use mathlib.Core.Bool.{true}
use borrow.Author.Tests.{eq-eqb}
use Rattle.window.specs.declared.Record.{Record}
use Rattle.window.specs.Order.{used}
use Rattle.window.specs.Plain.{Inside}
use Rattle.table.specs.View.{it_at}
use Rattle.table.specs.Note.{note-low}
use Rattle.engine.proofs.Again.{free_stays, other-stays, looked_again}
use native.Mathlib.Omega.{arith}
use Rattle.engine.proofs.look_again_at.Goals as goal

pub returns-then-v-ne1 : goal.returns-then-v-ne1
returns-then-v-ne1 c =
    let the-args = c.args in
    let the-if1 = c.if-v-ne1 in
    free_stays the-args.w the-args.i the-args.marks.now the-args.rows.now the-args.j _ refl the-if1.true

pub returns-then-not-is_member : goal.returns-then-not-is_member
returns-then-not-is_member c =
    let the-args = c.args in
    let the-is-member = c.is_member in
    let the-if2 = c.if-not-is_member in
    other-stays the-args.w the-args.i the-args.marks.now the-args.rows.now the-args.j _ refl the-is-member.result the-is-member.ensures (the-if2.true)

pub look-found-requires : goal.look-found-requires
look-found-requires c =
    let a = c.args in
    (c.requires.0, c.requires.3.at a.j c.requires.2 (eq-eqb (it_at a.rows.now a.j).in_use 1 c.if-v-ne1.false), c.requires.1)

pub note_of-requires : goal.note_of-requires
note_of-requires c = omega (arith, note-low c.look-found.result c.args.w.n c.look-found.ensures.1, c.requires.0.n-high)

pub returns : goal.returns
returns c =
    let a = c.args in
    looked_again a.w a.i a.marks.now a.rows.now a.j _ refl c.requires.2 c.look-found.result c.look-found.ensures.0 c.note_of.result c.note_of.ensures _ refl
