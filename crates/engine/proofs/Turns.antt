-- A turn of the release of every row. Assumes nothing.
use mathlib.Core.Path.{◌≡◌, refl, sym, ap, subst, ◌∙◌}
use mathlib.Core.Bool.{Bool, true, false, cond}
use mathlib.Core.List.{List}
use Prim.Native.Nat.{ℕ, ◌+◌, ◌*◌, ◌<◌, ◌≤◌}
use native.Mathlib.Numerals.{add-one}
use native.Mathlib.Omega.{arith}
use lib.Dec.{eqb}
use lib.ListN.{length, length-set}
use lib.Seq.{get_or-set_same, get_or-set_other}
use borrow.Author.Tests.{eqb-true, eqb-false}
use Rattle.window.specs.declared.Window.{Window}
use Rattle.window.specs.Record.{blank}
use Rattle.window.specs.Order.{used}
use Rattle.calls.specs.State.{recount}
use Rattle.table.specs.declared.Row.{Row}
use Rattle.table.specs.View.{nobody, slot_at, note_at, it_at, put}
use Rattle.table.specs.Fold.{below}
use Rattle.engine.specs.Rows.{Desk, free_row, free_if}
use Rattle.engine.proofs.Free.{desk}

-- every row in use lies at a record of the window
abbrev pub Low : Window → List Row → Type 0
Low w hs = (i : ℕ) → i < length hs → used (it_at hs i) ≡ true → slot_at hs i < w.k

-- each of the first i rows that a test holds of is released, and the rest can be
pub record Frees (test : List Row → ℕ → Bool) (w : Window) (d₀ : Desk) (i : ℕ) (d : Desk) : Type 0 where
  pub is : d ≡ below (free_if test) i d₀
  pub same : d.window ≡ recount w d.window.present d.window.in_use
  pub low : Low w d.rows

pub frees_start : (test : List Row → ℕ → Bool) (w : Window) (parity : List ℕ) (hs : List Row) → Low w hs → Frees test w (desk w parity hs) 0 (desk w parity hs)
frees_start test w parity hs l = record { is = refl; same = refl; low = l }

pub frees_asks : (test : List Row → ℕ → Bool) (w : Window) (d₀ : Desk) (i : ℕ) (d : Desk) → Frees test w d₀ i d → i < length d.rows → w.k * w.p ≤ length d.parity
    → (i < length d.rows) × (used (it_at d.rows i) ≡ true → slot_at d.rows i < d.window.k) × (d.window.k * d.window.p ≤ length d.parity)
frees_asks test w d₀ i d f l room = (l, λ u. rw f.same (f.low i l u), rw f.same room)

-- a row set free is not in use
low-put : (w : Window) (hs : List Row) (i : ℕ) → i < length hs → Low w hs → Low w (put hs i blank)
low-put w hs i l low j h u = go (eqb j i) refl
  where
    new : Row
    new = record { slot = slot_at hs i; note = note_at hs i; it = blank }

    go : (t : Bool) → eqb j i ≡ t → slot_at (put hs i blank) j < w.k
    go true e =
        let z : j ≡ i = eqb-true j i e in
        let free : used (it_at (put hs i blank) j) ≡ false = ap (λ (n : ℕ). used (it_at (put hs i blank) n)) z ∙ ap (λ (r : Row). used r.it) (get_or-set_same hs i new nobody l) in
        absurd (let q : ◌≡◌ {A = Bool} false true = sym free ∙ u in let n : ◌≡◌ {A = ℕ} 0 1 = cc in omega arith)
    go false e =
        let o = get_or-set_other hs i j new nobody (eqb-false j i e) in
        subst (λ (r : Row). r.slot < w.k) (sym o) (low j (simp length-set at h) (ap (λ (r : Row). used r.it) (sym o) ∙ u))

pub frees_more : (test : List Row → ℕ → Bool) (w : Window) (d₀ : Desk) (i : ℕ) (d : Desk) → Frees test w d₀ i d → i < length d.rows → (d' : Desk) → d' ≡ free_if test i d → Frees test w d₀ (i + 1) d'
frees_more test w d₀ i d f l d' e = record {
  is = e ∙ ap (free_if test i) f.is ∙ ap (λ (n : ℕ). below (free_if test) n d₀) (sym (add-one i));
  same = subst (λ (x : Desk). x.window ≡ recount w x.window.present x.window.in_use) (sym e) (same (test d.rows i));
  low = subst (λ (x : Desk). Low w x.rows) (sym e) (low (test d.rows i));
}
  where
    same : (t : Bool) → (cond t (free_row i d) d).window ≡ recount w (cond t (free_row i d) d).window.present (cond t (free_row i d) d).window.in_use
    same true = rw f.same
    same false = f.same

    low : (t : Bool) → Low w (cond t (free_row i d) d).rows
    low true = low-put w d.rows i l f.low
    low false = f.low
