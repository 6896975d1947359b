-- `group::held_along` meets its contract: after j turns the rows are the members held of the first j. Assumes nothing.
use Rattle.std.proofs.Common.{ap, Bool, not, ℕ, length-set, arith}
use Rattle.std.proofs.lemmas.Bool.{eq-eqb, ne_eqb}
use Rattle.window.specs.Group.{is_missing}
use Rattle.group.proofs.Along.{member-next, place_is, one_kept, none_kept}
use Rattle.group.proofs.held_along.Goals as goal
use Rattle.group.proofs.held_along.Goals.{then-marks-i-ne0, else-marks-i-ne0}

pub loop-preserved : goal.loop-preserved
loop-preserved c =
    let a = c.args in
    let l = c.loop in
    let e = place_is a.base a.snbase a.offset l.counter l.number c.position-i.result l.invariant.2 c.position-i.ensures in
    let on = member-next a.snbase a.offset l.counter l.number c.next-number.result l.invariant.2 c.next-number.ensures in
    let test : ℕ → Bool = λ i. not (is_missing a.marks.now i) in
    elim c.if-marks-i-ne0.branch [
      | then-marks-i-ne0 w ↦ (
        omega arith,
        rw w.rows-is (simp length-set l.invariant.1),
        on,
        rw (w.rows-is, w.n-is) (one_kept test a.base a.snbase a.offset l.counter l.rows l.n c.position-i.result e l.invariant.3 (omega arith) (ap not (ne_eqb _ 0 w.if-marks-i-ne0.true))),
      )
      | else-marks-i-ne0 w ↦ (
        omega arith,
        rw w.rows-is l.invariant.1,
        on,
        rw (w.rows-is, w.n-is) (none_kept test a.base a.snbase a.offset l.counter l.rows l.n c.position-i.result e l.invariant.3 (ap not (eq-eqb _ 0 w.if-marks-i-ne0.false))),
      )
    ]
