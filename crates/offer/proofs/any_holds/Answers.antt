-- `offer::any_holds` meets its contract: after i turns the flag says whether one of the first i rows holds the group. Assumes nothing.
use Rattle.std.proofs.Common.{◌≡◌, refl, ap, ◌∙◌, Bool, ◌||◌, length, arith}
use Rattle.window.proofs.Turn.{turn-any}
use Rattle.offer.specs.Rows.{row_holds}
use Rattle.offer.proofs.any_holds.Goals as goal

pub loop-i-init : goal.loop-i-init
loop-i-init c = refl

pub loop-i-preserved : goal.loop-i-preserved
loop-i-preserved c =
    let a = c.args in
    let l = c.loop-i in
    ap (λ (t : Bool). l.found || t) c.row_holds-found.ensures ∙ turn-any (row_holds a.rows.now a.stream a.snbase) l.i l.found l.invariant

pub returns : goal.returns
returns c = let e : c.loop-i.i ≡ length c.args.rows.now = omega arith in c.loop-i.invariant ∙ rw e
