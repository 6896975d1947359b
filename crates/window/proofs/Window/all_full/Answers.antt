-- `window::Window::all_full` meets its contract: P is a good length.
use mathlib.Core.Path.{◌≡◌, refl, sym, ap, ◌∙◌}
use mathlib.Core.Bool.{Bool, true, false, cond, not, ◌&&◌, ◌||◌}
use Prim.Native.Nat.{ℕ}
use native.Mathlib.Omega.{arith}
use lib.Dec.{eqb}
use lib.ListN.{get_or}
use borrow.Author.Tests.{eqb-true}
use Rattle.sequence.specs.Lists.{up_to, all}
use Rattle.sequence.proofs.Lists.{all_true, true-all}
use Rattle.rtp.specs.Length.{good_length}
use Rattle.window.specs.Order.{is_present}
use Rattle.window.proofs.Turn.{turn-all}
use Rattle.window.proofs.Window.all_full.Invariants.{full_at}
use Rattle.window.proofs.Window.all_full.Goals as goal

so_good : (p n : ℕ) (b : Bool) → good_length p p ≡ true → eqb n (cond b p 0) ≡ true → (not b || good_length p n) ≡ true
so_good p n true g e = rw (eqb-true n p e) g
so_good p n false g e = refl

pub overflow_cast-p : goal.overflow_cast-p
overflow_cast-p c = omega (arith, c.requires.0.p-high)

pub loop-i-init : goal.loop-i-init
loop-i-init c = (omega arith, refl)

pub loop-i-preserved : goal.loop-i-preserved
loop-i-preserved c =
    let a = c.args in
    let l = c.loop-i in
    let e = ap (λ (n : ℕ). l.full && eqb (get_or a.lengths.now l.i 0) n) c.wanted.ensures in
    (omega arith, e ∙ turn-all (full_at a.self.p a.lengths.now a.marks.now) l.i l.full l.invariant.1)

pub returns : goal.returns
returns c full =
    let a = c.args in
    let l = c.loop-i in
    let e : l.i ≡ a.self.n = omega arith in
    let each : all (full_at a.self.p a.lengths.now a.marks.now) (up_to a.self.n) ≡ true = ap (λ n. all (full_at a.self.p a.lengths.now a.marks.now) (up_to n)) (sym e) ∙ sym l.invariant.1 ∙ full in
    true-all (λ i. not (is_present a.marks.now i) || good_length a.self.p (get_or a.lengths.now i 0)) a.self.n
    (λ i k. so_good a.self.p (get_or a.lengths.now i 0) (is_present a.marks.now i) c.requires.0.p-good (all_true (full_at a.self.p a.lengths.now a.marks.now) a.self.n each i k))
