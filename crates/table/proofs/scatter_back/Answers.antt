-- `table::scatter_back` meets its contract: each turn puts one row more back. Assumes nothing.
use Rattle.std.proofs.Common.{arith, ap, ◌∙◌, ◌-◌, List, set}
use Rattle.window.specs.declared.Record.{Record}
use Rattle.table.specs.View.{slot_at, it_at}
use Rattle.table.proofs.Rows.{none_back, one_back}
use Rattle.table.proofs.scatter_back.Goals as goal

pub loop-i-init : goal.loop-i-init
loop-i-init c = none_back c.args.rows.now c.args.table.now

pub loop-i-preserved : goal.loop-i-preserved
loop-i-preserved c =
    let hs = c.args.rows.now in
    let i = c.loop-i.i in
    ap (λ (t : List Record). set t (slot_at hs (i - 1)) (it_at hs (i - 1))) c.loop-i.invariant ∙ one_back hs c.args.table.now i (omega arith) (omega (arith, c.loop-i.auto.i))
