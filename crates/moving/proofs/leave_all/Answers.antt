-- `moving::leave_all` meets its contract: after i turns the first i packets have left. Assumes nothing.
use Rattle.moving.proofs.Slots.{one_most, slots_lent, sizes-more, count_next}
use mathlib.Core.Path.{◌≡◌, refl, ap, ◌∙◌}
use mathlib.Core.Bool.{cond}
use Prim.Native.Nat.{ℕ, ◌+◌, ◌*◌, ◌-◌}
use lib.Dec.{eqb}
use lib.ListN.{length, length-set, length-take, length-drop}
use Rattle.calls.specs.Call.{over}
use Rattle.calls.specs.Move.{leaving_slots, leaving_sizes, leaving_count}
use borrow.Rule.Slice.PartMut.{same_len_mid}
use Rattle.group.proofs.Rows.{row_ends}
use Rattle.moving.specs.Lies.{held_in}
use native.Mathlib.Omega.{arith}
use Rattle.moving.proofs.leave_all.Goals as goal

pub loop-i-init : goal.loop-i-init
loop-i-init c = (refl, refl, refl, omega arith, refl, refl)

pub overflow_mul-at : goal.overflow_mul-at
overflow_mul-at c = let a = c.args in let l = c.loop-i in omega (arith, row_ends l.i a.by (12 + a.w.p) (length a.out.now) (omega arith) c.requires.2, c.well_formed)

pub slice_bounds-leave-count : goal.slice_bounds-leave-count
slice_bounds-leave-count c = let a = c.args in let l = c.loop-i in omega (arith, row_ends l.i a.by (12 + a.w.p) (length a.out.now) (omega arith) c.requires.2)

pub leave-size-requires : goal.leave-size-requires
leave-size-requires c =
    let a = c.args in
    let l = c.loop-i in
    let ends = row_ends l.i a.by (12 + a.w.p) (length a.out.now) (omega arith) c.requires.2 in
    (omega (arith, c.requires.0), c.requires.1, simp (length-take, length-drop) (omega arith))

pub overflow_add-count : goal.overflow_add-count
overflow_add-count c =
    let a = c.args in
    let l = c.loop-i in
    let s = held_in a.store in
    let few = one_most a.w s l.i c.one-count.result (c.one-count.ensures ∙ ap (λ (n : ℕ). cond (eqb n 0) 0 1) c.leave-size.ensures.1) in
    omega (arith, l.invariant.3, c.requires.0, c.requires.1.set_up.n-high)

pub loop-i-preserved : goal.loop-i-preserved
loop-i-preserved c =
    let a = c.args in
    let l = c.loop-i in
    let s = held_in a.store in
    let e = c.one-count.ensures ∙ ap (λ (n : ℕ). cond (eqb n 0) 0 1) c.leave-size.ensures.1 in
    let few = one_most a.w s l.i c.one-count.result e in (
      slots_lent a.w s l.i a.out.now l.out c.leave-size.new.out l.invariant.0 c.leave-size.ensures.0,
      sizes-more a.w s l.i c.leave-size.result a.sizes.now l.sizes (omega (arith, c.requires.3)) l.invariant.1 c.leave-size.ensures.1,
      count_next a.w s l.i c.one-count.result l.count e l.invariant.2,
      omega (arith, l.invariant.3, few),
      same_len_mid (l.i * (12 + a.w.p)) (length l.out - l.i * (12 + a.w.p)) l.out c.leave-size.new.out (omega (arith, c.leave-size.auto)) ∙ l.invariant.4,
      simp length-set l.invariant.5,
    )

pub returns : goal.returns
returns c =
    let a = c.args in
    let l = c.loop-i in
    let s = held_in a.store in
    let e : l.i ≡ a.by = omega arith in
    (l.invariant.0 ∙ ap (λ (k : ℕ). over (leaving_slots a.w s k) a.out.now) e, l.invariant.1 ∙ ap (λ (k : ℕ). over (leaving_sizes a.w s k) a.sizes.now) e, l.invariant.2 ∙ ap (leaving_count s) e)
