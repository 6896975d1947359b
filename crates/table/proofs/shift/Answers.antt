-- `table::shift` meets its contract: the rows from i on have moved. Assumes nothing.
use Rattle.std.proofs.Common.{arith, subst, ap, ◌≡◌, ◌+◌, ◌-◌, ℕ, set, get_or}
use Rattle.table.specs.View.{nobody}
use Rattle.table.specs.Hold.{Shifted, unshifted, shift-more}
use Rattle.table.proofs.shift.Goals as goal

pub loop-i-init : goal.loop-i-init
loop-i-init c = (c.requires.0, unshifted c.args.m c.args.rows.now c.requires.1)

pub loop-i-preserved : goal.loop-i-preserved
loop-i-preserved c =
    let l = c.loop-i in
    let e : l.i - 1 + 1 ≡ l.i = omega arith in
    (omega arith, shift-more c.args.m c.args.rows.now c.requires.1 l.i l.rows _ (omega arith) (omega (arith, l.auto.i)) l.invariant.1 (ap (λ (j : ℕ). set l.rows j (get_or l.rows (l.i - 1) nobody)) e))

pub returns : goal.returns
returns c = subst (λ (j : ℕ). Shifted j c.args.m c.args.rows.now c.loop-i.rows) (omega (arith, c.loop-i.invariant.0)) c.loop-i.invariant.1
