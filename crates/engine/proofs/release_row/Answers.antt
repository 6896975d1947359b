-- `engine::release_row` meets its contract: each return is a way through `free_if`. Assumes nothing.
use Rattle.std.proofs.Common.{eq-eqb, ne_eqb}
use Rattle.table.specs.View.{note_at, it_at}
use Rattle.engine.proofs.release_row.Goals as goal

pub returns-then-rows-i-ne1 : goal.returns-then-rows-i-ne1
returns-then-rows-i-ne1 c = rw (ne_eqb (it_at c.args.rows.now c.args.i).in_use 1 c.if-rows-i-ne1.true)

pub returns-then-rows-i-ne-NOTE_NONE : goal.returns-then-rows-i-ne-NOTE_NONE
returns-then-rows-i-ne-NOTE_NONE c = rw (eq-eqb (it_at c.args.rows.now c.args.i).in_use 1 c.if-rows-i-ne1.false, ne_eqb (note_at c.args.rows.now c.args.i) 0 c.if-rows-i-ne-NOTE_NONE.true)

pub free_row-requires : goal.free_row-requires
free_row-requires c = (c.requires.0, c.requires.1 (eq-eqb (it_at c.args.rows.now c.args.i).in_use 1 c.if-rows-i-ne1.false), c.requires.2)

pub returns : goal.returns
returns c = rw (c.free_row.ensures, eq-eqb (it_at c.args.rows.now c.args.i).in_use 1 c.if-rows-i-ne1.false, eq-eqb (note_at c.args.rows.now c.args.i) 0 c.if-rows-i-ne-NOTE_NONE.false)
