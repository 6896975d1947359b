-- The map of SNBases that were seen: where a row's place is free, no row before it names its group. Assumes nothing.
use mathlib.Core.Path.{◌≡◌, refl, sym, ap, ◌∙◌}
use mathlib.Core.Bool.{Bool, true, false}
use mathlib.Core.List.{List}
use mathlib.Core.Logic.{⊎_elim}
use Prim.Native.Nat.{ℕ, ◌+◌, ◌%◌, ◌<◌}
use native.Mathlib.Nat.{eq-or-lt_of_le}
use native.Mathlib.Omega.{arith}
use lib.Dec.{eqb}
use lib.ListN.{length, get_or, set}
use lib.Seq.{get_or-set_same, get_or-set_other}
use borrow.Author.Tests.{eqb-true, eqb-false}
use Rattle.sequence.specs.Lists.{up_to, any}
use Rattle.sequence.proofs.Lists.{false-any, and_split}
use Rattle.window.specs.declared.Record.{Record}
use Rattle.window.specs.Order.{used, same_group}
use Rattle.table.specs.declared.Row.{Row}
use Rattle.table.specs.View.{it_at}
use Rattle.table.specs.Apart.{Alike, alike-it}
use Rattle.order.specs.Rows.{names, seen_at}

-- the places of the first i rows are taken
pub record Seen (hs : List Row) (seen : List ℕ) (i : ℕ) : Type 0 where
  pub taken : (j : ℕ) → j < i → get_or seen (seen_at hs j) 0 ≡ 1

pub none_seen : (hs : List Row) (seen : List ℕ) → Seen hs seen 0
none_seen hs seen = record { taken = λ j l. absurd (omega (arith, l)) }

-- one row more
pub more-seen : (hs : List Row) (seen : List ℕ) (i at : ℕ) → at ≡ seen_at hs i → at < length seen → Seen hs seen i → Seen hs (set seen at 1) (i + 1)
more-seen hs seen i at e l s = record { taken = λ j h. go j h (eqb (seen_at hs j) at) refl }
  where
    go : (j : ℕ) → j < i + 1 → (t : Bool) → eqb (seen_at hs j) at ≡ t → get_or (set seen at 1) (seen_at hs j) 0 ≡ 1
    go j h true q = ap (λ (n : ℕ). get_or (set seen at 1) n 0) (eqb-true (seen_at hs j) at q) ∙ get_or-set_same seen at 1 0 l
    go j h false q =
        let n = eqb-false (seen_at hs j) at q in
        get_or-set_other seen at (seen_at hs j) 1 0 n ∙ s.taken j (⊎_elim (λ (z : j ≡ i). absurd (n (ap (seen_at hs) z ∙ sym e))) (λ (z : j < i). z) (eq-or-lt_of_le (omega (arith, h))))

-- a free place says that no row before names the group
pub fresh : (hs gs : List Row) → Alike gs hs → (seen : List ℕ) (i at : ℕ) → at ≡ seen_at gs i → Seen hs seen i → eqb (get_or seen at 0) 0 ≡ true → any (names gs (it_at gs i)) (up_to i) ≡ false
fresh hs gs a seen i at e s z = false-any (names gs (it_at gs i)) i (λ j l. go j l (names gs (it_at gs i) j) refl)
  where
    go : (j : ℕ) → j < i → (t : Bool) → names gs (it_at gs i) j ≡ t → t ≡ false
    go j l false q = refl
    go j l true q =
        let b = and_split (used (it_at gs j)) (same_group (it_at gs j) (it_at gs i)) q in
        let c = and_split (eqb (it_at gs j).stream (it_at gs i).stream) (eqb (it_at gs j).snbase (it_at gs i).snbase) b.1 in
        let same : (it_at gs j).snbase ≡ (it_at gs i).snbase = eqb-true _ _ c.1 in
        let place : seen_at hs j ≡ at = ap (λ (v : Record). v.snbase % 512) (sym (alike-it a j)) ∙ ap (λ (n : ℕ). n % 512) same ∙ sym e in
        let one : get_or seen at 0 ≡ 1 = ap (λ (n : ℕ). get_or seen n 0) (sym place) ∙ s.taken j l in
        let none : get_or seen at 0 ≡ 0 = eqb-true (get_or seen at 0) 0 z in
        absurd (omega arith)
