-- `xor::xor_parts` meets its contract: one byte of every part each turn. Assumes nothing.
use Rattle.std.proofs.Common.{◌≡◌, ◌∙◌, cond, not, eqb, get_or, arith}
use Rattle.std.proofs.lemmas.Bool.{eq-eqb, ne_eqb}
use Rattle.std.proofs.lemmas.List.Edits.{paste_none}
use Rattle.xor.proofs.Turn.{parts, kept, fit_of, parts-more, parts-all}
use Rattle.xor.proofs.xor_parts.Goals as goal
use Rattle.xor.proofs.xor_parts.Goals.{then-this-ne0, else-this-ne0}

pub loop-i-init : goal.loop-i-init
loop-i-init g c = let a = c.args in paste_none a.dst.now 0 (parts a.src.now a.places (kept (not (eqb g.row.KEEP 0)) a.dst.now))

pub loop-i-preserved : goal.loop-i-preserved
loop-i-preserved g c =
    let a = c.args in
    let l = c.loop-i in
    let byte : c.if-this-ne0.byte ≡ cond (not (eqb g.row.KEEP 0)) (get_or l.dst l.i 0) 0 =
    elim c.if-this-ne0.branch [
      | then-this-ne0 w ↦ w.byte-is ∙ rw (ne_eqb g.row.KEEP 0 w.if-this-ne0.true)
      | else-this-ne0 w ↦ w.byte-is ∙ rw (eq-eqb g.row.KEEP 0 w.if-this-ne0.false)
    ] in
    parts-more a.src.now a.places a.dst.now (not (eqb g.row.KEEP 0)) (fit_of _ _ a.places (λ k h. c.requires k (omega arith))) l.dst l.i _ _ l.invariant (omega arith) byte c.xor_byte.ensures

pub returns : goal.returns
returns g c =
    let a = c.args in
    parts-all a.src.now a.places a.dst.now (not (eqb g.row.KEEP 0)) (fit_of _ _ a.places (λ k h. c.requires k (omega arith))) c.loop-i.dst c.loop-i.i c.loop-i.invariant (omega arith)
