-- `group::next_missing` meets its contract: of the members passed none is missing. Assumes nothing.
use Rattle.std.proofs.Common.{sym, ap, ◌∙◌, arith}
use Rattle.std.proofs.lemmas.Bool.{ne_eqb}
use Rattle.window.specs.Group.{is_missing}
use Rattle.group.proofs.Along.{member-next, place_is}
use Rattle.group.proofs.Looking.{passed-more}
use Rattle.group.proofs.next_missing.Goals as goal

pub loop-j-preserved : goal.loop-j-preserved
loop-j-preserved c =
    let a = c.args in
    let l = c.loop-j in
    let e = place_is a.base a.snbase a.offset l.j l.number c.position-i.result l.invariant.0 c.position-i.ensures in
    (member-next a.snbase a.offset l.j l.number c.next-number.result l.invariant.0 c.next-number.ensures, passed-more a.marks.now a.base a.snbase a.offset a.na a.from l.j (omega arith) (ap (is_missing a.marks.now) (sym e) ∙ ne_eqb _ 0 c.if-marks-i-eq0.false) l.invariant.1)
