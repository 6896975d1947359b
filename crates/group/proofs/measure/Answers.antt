-- `group::measure` meets its contract: after i turns it has the exclusive-or and the longest of the first i lengths, and the flag says that each is p.
-- Assumes nothing.
use Rattle.std.proofs.Common.{◌≡◌, sym, ap, ◌∙◌, ℕ, max, eqb, get_or, below_more, eqb-true, arith}
use Rattle.sequence.proofs.Lists.{and_split}
use Rattle.parity.proofs.Turns.{one-number}
use Rattle.group.proofs.Longest.{longest-more}
use Rattle.group.proofs.measure.Goals as goal

pub loop-row-preserved : goal.loop-row-preserved
loop-row-preserved c =
    let l = c.loop-row in
    let a = c.args in
    let f : ℕ → ℕ = λ k. get_or a.lengths.now k 0 in
    let here = get_or a.lengths.now (get_or a.rows.now l.row-index 0) 0 in (
      rw l.invariant.0 (one-number f a.rows.now l.row-index 0 (omega arith)),
      c.max-most.ensures ∙ ap (λ (m : ℕ). max m here) l.invariant.1 ∙ longest-more f a.rows.now l.row-index (omega arith),
      λ e.
          let s = and_split l.full (eqb c.wide.result a.p) e in
          below_more (λ j. get_or a.lengths.now (get_or a.rows.now j 0) 0 ≡ a.p) l.row-index (l.invariant.2 s.0) (sym c.wide.ensures.0 ∙ eqb-true c.wide.result a.p s.1),
    )
