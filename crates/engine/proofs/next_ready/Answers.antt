-- `engine::next_ready` meets its contract: the best is that of the rows passed. Assumes nothing.
use Rattle.std.proofs.Common.{◌≡◌, sym, ap, ◌∙◌, ◌<◌, ℕ, List, Option, Some, None, IfSome, length, arith}
use Rattle.table.specs.declared.Row.{Row}
use Rattle.engine.specs.Rows.{next_row}
use Rattle.engine.proofs.Next.{leads_start, leads_more, found_low}
use Rattle.engine.proofs.next_ready.Goals as goal

pub loop-i-init : goal.loop-i-init
loop-i-init c = leads_start c.args.w.base c.args.rows.now

pub loop-i-preserved : goal.loop-i-preserved
loop-i-preserved c =
    let a = c.args in
    let l = c.loop-i in
    leads_more a.w.base a.rows.now l.i l.best l.invariant c.better-best.result c.row_rank-rank.result c.row_ready-ready.result c.row_ready-ready.ensures c.row_rank-rank.ensures c.better-best.ensures

-- the first so many, where they are all
all_of : (base n m : ℕ) (hs : List Row) → n ≡ m → next_row base hs n ≡ next_row base hs m
all_of base n m hs e = ap (next_row base hs) e

pub returns-clause-next : goal.returns-clause-next
returns-clause-next c =
    let l = c.loop-i in
    c.place_of.ensures ∙ sym l.invariant.is ∙ all_of c.args.w.base l.i (length c.args.rows.now) c.args.rows.now (omega arith)

pub returns-clause-low : goal.returns-clause-low
returns-clause-low c =
    let l = c.loop-i in
    low c.args.w.base c.args.rows.now _ _ (sym l.invariant.is ∙ all_of c.args.w.base l.i (length c.args.rows.now) c.args.rows.now (omega arith)) (c.place_of.ensures)
  where
    low : (base : ℕ) (hs : List Row) (o r : Option ℕ) → o ≡ next_row base hs (length hs) → r ≡ o → IfSome r (λ i. i < length hs)
    low base hs o None e f = tt
    low base hs o (Some i) e f = found_low base hs (length hs) i (sym (f ∙ e))
