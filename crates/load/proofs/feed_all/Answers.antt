-- `load::feed_all` meets its contract.
use Rattle.std.proofs.Common.{sym, subst, ◌∙◌, arith, get_or}
use Rattle.capture.proofs.StageLaws.{skip_rest, run_at, run_end}
use Rattle.capture.specs.Small.{Small}
use Rattle.capture.proofs.Small.{feed-small, run_small}
use Rattle.load.proofs.feed_all.Goals as goal

pub returns-then-counts : goal.returns-then-counts
returns-then-counts c =
    let l = c.loop-i in
    let a = c.args in
    let e = c.skip.ensures ∙ skip_rest l.q a.piece.now l.i (sym c.counts.ensures ∙ c.if-counts.true) ∙ l.invariant.1 in
    (e, subst Small (sym e) (run_small a.s a.piece.now c.requires))

pub loop-i-preserved : goal.loop-i-preserved
loop-i-preserved c =
    let l = c.loop-i in
    let p = c.args.piece.now in
    rw c.feed-q.ensures
    (feed-small (get_or p l.i 0) l.q l.invariant.0, run_at l.q p l.i (omega arith) ∙ l.invariant.1)

pub returns : goal.returns
returns c =
    let l = c.loop-i in
    (sym (run_end l.q c.args.piece.now l.i (omega arith)) ∙ l.invariant.1, l.invariant.0)
