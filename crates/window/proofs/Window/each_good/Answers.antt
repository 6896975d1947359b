-- `window::Window::each_good` meets its contract: after i turns the flag says whether the first i positions are good.
use mathlib.Core.Path.{◌≡◌, refl, ap, ◌∙◌}
use mathlib.Core.Bool.{Bool, not, ◌&&◌, ◌||◌}
use mathlib.Core.List.{List}
use Prim.Native.Nat.{ℕ}
use native.Mathlib.Omega.{arith}
use lib.ListN.{get_or}
use Rattle.rtp.specs.Length.{good_length}
use Rattle.window.specs.Order.{is_present}
use Rattle.window.proofs.Turn.{turn-all}
use Rattle.window.proofs.Window.each_good.Goals as goal

abbrev good-at : (p : ℕ) → (lengths marks : List ℕ) → ℕ → Bool
good-at p lengths marks k = not (is_present marks k) || good_length p (get_or lengths k 0)

pub loop-i-init : goal.loop-i-init
loop-i-init c = (omega arith, refl)

pub loop-i-preserved : goal.loop-i-preserved
loop-i-preserved c =
    let a = c.args in
    let l = c.loop-i in
    let e = c.good_length.ensures ∙ ap (good_length a.self.p) c.wide.ensures.0 in
    (omega arith, ap (λ (b : Bool). l.good && (not (is_present a.marks.now l.i) || b)) e ∙ turn-all (good-at a.self.p a.lengths.now a.marks.now) l.i l.good l.invariant.1)

pub returns : goal.returns
returns c = let e : c.loop-i.i ≡ c.args.self.n = omega arith in c.loop-i.invariant.1 ∙ rw e
