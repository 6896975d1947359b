-- `offer::any_same` meets its contract: after i turns the flag says whether one of the first i rows holds the same. Assumes nothing.
use Rattle.std.proofs.Common.{◌≡◌, refl, ap, ◌∙◌, Bool, ◌||◌, length, arith}
use Rattle.window.proofs.Turn.{turn-any}
use Rattle.offer.specs.Rows.{row_same}
use Rattle.offer.proofs.any_same.Goals as goal

pub loop-i-init : goal.loop-i-init
loop-i-init c = refl

pub row_same-found-requires : goal.row_same-found-requires
row_same-found-requires c = (omega arith, c.requires.0 c.loop-i.i (omega arith), c.requires.1, c.requires.2)

pub loop-i-preserved : goal.loop-i-preserved
loop-i-preserved c =
    let a = c.args in
    let l = c.loop-i in
    ap (λ (t : Bool). l.found || t) c.row_same-found.ensures ∙ turn-any (row_same a.w.p a.parity.now a.rows.now a.stream a.datagram.now) l.i l.found l.invariant

pub returns : goal.returns
returns c = let e : c.loop-i.i ≡ length c.args.rows.now = omega arith in c.loop-i.invariant ∙ rw e
