-- `save::put_table` meets its contract.
use Rattle.std.proofs.Common.{refl, sym, ap, ◌∙◌, List, ℕ, ◌+◌, arith, length, drop, get_or}
use Rattle.std.proofs.Math.Seq.{sets, length-sets}
use Rattle.capture.specs.Content.{line_of, table_end}
use Rattle.capture.specs.Calls.{lines}
use Rattle.save.proofs.Lay.{lines-turn, lines_end}
use Rattle.save.proofs.put_table.Goals as goal

pub loop-i-init : goal.loop-i-init
loop-i-init c = (refl, omega (arith, c.requires.1), refl)

pub overflow_cast-next : goal.overflow_cast-next
overflow_cast-next c = omega (arith, c.loop-i.invariant.1, c.requires.1)

pub put_line-requires : goal.put_line-requires
put_line-requires c = omega (arith, c.requires.2, c.loop-i.invariant.0)

pub overflow_add-next-in-loop-i : goal.overflow_add-next-in-loop-i
overflow_add-next-in-loop-i c = omega (arith, c.loop-i.invariant.1, c.requires.1)

pub loop-i-preserved : goal.loop-i-preserved
loop-i-preserved c =
    let l = c.loop-i in
    let ports = c.args.ports.now in
    let lengths = c.args.lengths.now in (
      ap length c.put_line.ensures ∙ length-sets l.out (table_end l.i) (line_of (get_or ports l.i 0) (get_or lengths l.i 0) l.next) ∙ l.invariant.0,
      omega (arith, l.invariant.1),
      ap (λ (o : List ℕ). sets o (table_end (l.i + 1)) (lines (l.next + get_or lengths l.i 0) (drop (l.i + 1) ports) (drop (l.i + 1) lengths))) c.put_line.ensures
          ∙ lines-turn l.out ports lengths l.next l.i (omega arith) (omega (arith, c.requires.0))
          ∙ l.invariant.2,
    )

pub returns : goal.returns
returns c = let l = c.loop-i in sym (lines_end l.out c.args.ports.now c.args.lengths.now l.next l.i (omega arith)) ∙ l.invariant.2
