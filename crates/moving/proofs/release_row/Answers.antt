-- `moving::release_row` meets its contract: each return is a way through `free_if`. Assumes nothing.
use Rattle.std.proofs.Common.{eq-eqb, ne_eqb, lt-ltb, le-ltb}
use Rattle.table.specs.View.{it_at}
use Rattle.moving.proofs.release_row.Goals as goal

pub returns-then-v-ne1 : goal.returns-then-v-ne1
returns-then-v-ne1 c = rw (ne_eqb (it_at c.args.rows.now c.args.i).in_use 1 c.if-v-ne1.true)

pub returns-then-by-at : goal.returns-then-by-at
returns-then-by-at c = rw (eq-eqb (it_at c.args.rows.now c.args.i).in_use 1 c.if-v-ne1.false, ← c.position-at.ensures, le-ltb c.position-at.result c.args.by c.if-by-at.true)

pub free_row-requires : goal.free_row-requires
free_row-requires c = (c.requires.0, c.requires.1 (eq-eqb (it_at c.args.rows.now c.args.i).in_use 1 c.if-v-ne1.false), c.requires.2)

pub returns : goal.returns
returns c = rw (c.free_row.ensures, eq-eqb (it_at c.args.rows.now c.args.i).in_use 1 c.if-v-ne1.false, ← c.position-at.ensures, lt-ltb c.position-at.result c.args.by c.if-by-at.false)
