-- `table::gather` meets its contract: each turn looks at one record more. Assumes nothing.
use Rattle.std.proofs.Common.{arith, ◌≡◌, ◌≤◌, ◌<◌, sym, ap, subst, ◌∙◌, ◌++◌, [], ◌∷◌, ◌+◌, ◌-◌, ℕ, List, length, take, get_or, length-append, length-take-le, add-one, eqb, eqb-true, eq-eqb, not, true, false}
use Rattle.std.proofs.Math.Seq.{take-suc-set}
use Rattle.window.specs.Record.{blank}
use Rattle.table.specs.View.{Row}
use Rattle.table.specs.Gather.{gathered}
use Rattle.table.proofs.Rows.{free_more, held_more, no_fewer}
use borrow.Author.Tests.{not-false}
use Rattle.table.proofs.gather.Goals.{then-is_taken+else-n-rows, else-is_taken}
use Rattle.table.proofs.gather.Goals as goal

-- a mark that is not that of a free record
taken : (m : ℕ) → not (eqb m 0) ≡ true → (m ≡ 0 → ⊥)
taken m e z = let f : not (eqb m 0) ≡ false = ap not (eq-eqb m 0 z) in let g : ◌≡◌ {A = ℕ} 0 1 = cc in omega arith

pub returns-then-n-rows-clause-none : goal.returns-then-n-rows-clause-none
returns-then-n-rows-clause-none c =
    let l = c.loop-i in
    let t = c.args.table.now in
    let m : length (gathered l.i t) ≡ l.n = ap length (sym l.invariant.1) ∙ length-take-le l.n l.rows l.invariant.0 in
    let h : length (gathered (l.i + 1) t) ≡ l.n + 1 = ap length (held_more t l.i (taken _ (sym c.is_taken.ensures ∙ c.if-is_taken.true))) ∙ length-append (gathered l.i t) _ ∙ omega (arith, m) in
    let f : length (gathered (l.i + 1) t) ≤ length (gathered (l.i + 1 + (c.args.k - (l.i + 1))) t) = no_fewer t (l.i + 1) (c.args.k - (l.i + 1)) in
    let k : l.i + 1 + (c.args.k - (l.i + 1)) ≡ c.args.k = omega arith in
    let g = subst (λ (j : ℕ). length (gathered (l.i + 1) t) ≤ length (gathered j t)) k f in
    omega (arith, g, h, c.if-n-rows.true)

pub loop-i-preserved : goal.loop-i-preserved
loop-i-preserved c =
    let l = c.loop-i in
    let t = c.args.table.now in
    elim c.if-is_taken.branch [
      | then-is_taken+else-n-rows w ↦
          let n : l.n < length l.rows = omega (arith, l.invariant.0, w.if-n-rows.false) in (
            omega (arith, w.n-is, c.if-is_taken.auto.rows),
            rw (w.n-is, w.rows-is, add-one l.n) (take-suc-set l.rows l.n _ n ∙ ap (λ (gs : List Row). gs ++ (record { slot = l.i; note = 0; it = get_or t l.i blank } ∷ [])) l.invariant.1) ∙ sym (held_more t l.i (taken _ (sym c.is_taken.ensures ∙ w.if-is_taken.true))),
          )
      | else-is_taken w ↦ (omega (arith, w.n-is, l.invariant.0, c.if-is_taken.auto.rows), rw (w.n-is, w.rows-is) (l.invariant.1 ∙ sym (free_more t l.i (eqb-true _ 0 (not-false _ (sym c.is_taken.ensures ∙ w.if-is_taken.false))))))
    ]
