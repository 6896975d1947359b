-- `table::hold` meets its contract. Assumes nothing.
use Rattle.std.proofs.Common.{arith, subst, take, length-take-le, refl, ℕ}
use Rattle.table.specs.Hold.{FirstFree, in_row, in_new_row}
use Rattle.table.proofs.hold.Goals as goal

pub returns-then-has_row : goal.returns-then-has_row
returns-then-has_row c =
    let a = c.args in
    let hs = a.rows.now in
    let r = c.first_free-r.result in
    let f = subst (λ (n : ℕ). FirstFree n (take a.m hs) r) (length-take-le a.m hs (omega (arith, c.requires.0))) c.first_free-r.ensures in
    let h = c.has_row.ensures.0 c.if-has_row.true in
    (in_row a.m hs c.requires.0 r f a.v _ h.0 h.1 refl, omega arith)

pub returns : goal.returns
returns c =
    let a = c.args in
    let hs = a.rows.now in
    let r = c.first_free-r.result in
    let f = subst (λ (n : ℕ). FirstFree n (take a.m hs) r) (length-take-le a.m hs (omega (arith, c.requires.0))) c.first_free-r.ensures in
    (in_new_row a.m hs c.requires.0 r f a.v _ _ r refl (c.has_row.ensures.1 c.if-has_row.false) c.shift.ensures refl, omega arith)
