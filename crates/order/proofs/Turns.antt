-- A turn of the loop over the rows, which makes a note, and what is known when it ends. Assumes nothing.
use mathlib.Core.Path.{◌≡◌, refl, sym, ap, subst, ◌∙◌}
use mathlib.Core.Bool.{Bool, true, false, cond, ◌&&◌}
use mathlib.Core.List.{List}
use mathlib.Core.Logic.{◌⊎◌, ⊎_elim}
use Prim.Native.Nat.{ℕ, ◌+◌, ◌<◌, ◌≤◌}
use native.Mathlib.Nat.{eq-or-lt_of_le}
use native.Mathlib.Omega.{arith}
use lib.ListN.{length, get_or}
use lib.Seq.{get_or-set_same, get_or-set_other}
use Rattle.sequence.specs.Lists.{up_to, all, count}
use Rattle.sequence.proofs.Lists.{and_split, all_more, count-more}
use Rattle.window.specs.declared.Record.{Record}
use Rattle.window.specs.declared.Window.{Window}
use Rattle.window.specs.Order.{used}
use Rattle.table.specs.declared.Row.{Row}
use Rattle.table.specs.View.{nobody, slot_at, it_at, put_note}
use Rattle.table.specs.Apart.{Alike, alike_refl, alike_trans, alike-note, alike-it, alike-length}
use Rattle.table.specs.Sound.{Sound, SoundRow}
use Rattle.order.specs.Rows.{row_good}
use Rattle.order.proofs.Agree.{count_most}
use Rattle.order.proofs.Scattered.{good-alike}
use Rattle.order.proofs.Look.{Told}

-- a row that can be worked on, if it is in use
abbrev pub Right : Window → (marks : List ℕ) → Row → Type 0
Right w marks h = used h.it ≡ true → SoundRow w marks h

-- a flag is at most 1
flag_most : (b : Bool) → cond b 1 0 ≤ 1
flag_most true = omega arith
flag_most false = omega arith

below_or : (i j : ℕ) → j < i + 1 → (j ≡ i) ⊎ (j < i)
below_or i j h = eq-or-lt_of_le (omega arith)

-- after i rows of hs, the hand being gs
pub record Turned (w : Window) (marks : List ℕ) (hs gs : List Row) (good : Bool) (n i : ℕ) : Type 0 where
  pub all-good : good ≡ all (row_good w marks hs) (up_to i)
  pub in_use : n ≡ count (λ j. used (it_at hs j)) (up_to i)
  pub alike : Alike gs hs
  pub noted : good ≡ true → (j : ℕ) → j < i → Right w marks (get_or gs j nobody)

module _ (w : Window) (marks : List ℕ) (hs : List Row) where
  -- before the first
  pub none-turned : Turned w marks hs hs true 0 0
  none-turned = record { all-good = refl; in_use = refl; alike = alike_refl hs; noted = λ g j l. absurd (omega arith) }

  all_sound : (gs : List Row) (good : Bool) (n i : ℕ) → Turned w marks hs gs good n i → length hs ≤ i → good ≡ true → Sound w marks gs
  all_sound gs good n i t h g = record { at = λ j l u. t.noted g j (omega (arith, alike-length t.alike)) u }

  module _ (gs : List Row) (good : Bool) (n i : ℕ) (t : Turned w marks hs gs good n i) where
    -- what the loop leaves, behind the last
    pub ended : (m : ℕ) → i ≡ m → length hs ≡ m → (good ≡ all (row_good w marks hs) (up_to m)) × (n ≡ count (λ j. used (it_at hs j)) (up_to m)) × Alike gs hs × (good ≡ true → Sound w marks gs)
    ended m e h =
        (t.all-good ∙ ap (λ (k : ℕ). all (row_good w marks hs) (up_to k)) e, t.in_use ∙ ap (λ (k : ℕ). count (λ j. used (it_at hs j)) (up_to k)) e, t.alike, all_sound gs good n i t (omega arith))

    module _ (more : Bool) (m c : ℕ) (told : Told w marks gs i (it_at gs i) more m c) where
      -- there are no more in use than rows
      pub few-turned : n + m ≤ i + 1
      few-turned = omega (arith, t.in_use, count_most (λ j. used (it_at hs j)) i, told.1, flag_most (used (it_at gs i)))

      -- the row with its note
      abbrev here : Row
      here = record { slot = slot_at gs i; note = c; it = it_at gs i }

      -- what is noted at each row so far
      noted_more : i < length gs → (good && more) ≡ true → (j : ℕ) → j < i + 1 → Right w marks (get_or (put_note gs i c) j nobody)
      noted_more l g j h =
          let s = and_split good more g in
          ⊎_elim
          (λ (q : j ≡ i). subst (λ (k : ℕ). Right w marks (get_or (put_note gs i c) k nobody)) (sym q) (subst (Right w marks) (sym (get_or-set_same gs i here nobody l)) (told.2 s.1)))
          (λ (q : j < i). subst (Right w marks) (sym (get_or-set_other gs i j here nobody (λ e. omega arith))) (t.noted s.0 j q))
          (below_or i j h)

      -- a turn
      pub turned : i < length gs → (gs' : List Row) → gs' ≡ put_note gs i c → Turned w marks hs gs' (good && more) (n + m) (i + 1)
      turned l gs' e =
          rw e
          (record {
            all-good = (ap (λ (b : Bool). b && more) t.all-good ∙ ap (λ (b : Bool). all (row_good w marks hs) (up_to i) && b) (told.0 ∙ good-alike t.alike w marks i)) ∙ sym (all_more (row_good w marks hs) i);
            in_use = (ap (λ (k : ℕ). k + m) t.in_use ∙ ap (λ (k : ℕ). count (λ j. used (it_at hs j)) (up_to i) + k) (told.1 ∙ ap (λ (v : Record). cond (used v) 1 0) (alike-it t.alike i))) ∙ sym (count-more (λ j. used (it_at hs j)) i);
            alike = alike_trans (alike-note gs i c) t.alike;
            noted = noted_more l;
          })
