-- One packet more: of a group without its position nothing else is missing than before, and one that has it is looked at again. Assumes nothing.
use mathlib.Core.Path.{◌≡◌, refl, sym, ap, subst, ◌∙◌}
use mathlib.Core.Bool.{Bool, true, false, cond}
use mathlib.Core.List.{List, [], ◌∷◌}
use Prim.Native.Nat.{ℕ, ◌+◌, ◌<◌, ◌≤◌}
use native.Mathlib.Omega.{arith}
use lib.Dec.{eqb}
use lib.ListN.{length, get_or, set}
use lib.Seq.{get_or-set_same, get_or-set_other}
use borrow.Author.Tests.{eqb-true, eqb-false}
use Rattle.sequence.specs.Lists.{keep, count}
use Rattle.window.specs.declared.Look.{Look}
use Rattle.window.specs.declared.Record.{Record}
use Rattle.window.specs.declared.Window.{Window}
use Rattle.window.specs.Group.{group, is_missing, missing}
use Rattle.window.specs.Look.{look}
use Rattle.window.specs.Order.{used}
use Rattle.window.specs.Plain.{Inside}
use Rattle.table.specs.declared.Row.{Row}
use Rattle.table.specs.View.{nobody, it_at, put_note}
use Rattle.table.specs.Note.{note_of, note-same}
use Rattle.table.specs.Apart.{Alike, alike_refl, alike_trans, alike-note, alike-length, alike-it}
use Rattle.table.specs.Sound.{SoundRow, Sound}
use Rattle.engine.specs.Rows.{InsideRows, Again, AgainAt, AgainAll}

-- a list without position i has the same missing once i is present
still-missing : (old : List ℕ) (i : ℕ) (l : List ℕ) → count (eqb i) l ≡ 0 → missing (set old i 1) l ≡ missing old l
still-missing old i [] h = refl
still-missing old i (j ∷ l) h = go (eqb i j) refl h (still-missing old i l)
  where
    go : (t : Bool) → eqb i j ≡ t → length (cond t (j ∷ keep (eqb i) l) (keep (eqb i) l)) ≡ 0 → (count (eqb i) l ≡ 0 → missing (set old i 1) l ≡ missing old l)
        → cond (is_missing (set old i 1) j) (j ∷ missing (set old i 1) l) (missing (set old i 1) l) ≡ cond (is_missing old j) (j ∷ missing old l) (missing old l)
    go true e z ih = absurd (omega (arith, z))
    go false e z ih = rw (get_or-set_other old i j 1 0 (λ q. eqb-false i j e (sym q)), ih z)

-- the rows of a sound hand
pub sound-inside : (w : Window) (marks : List ℕ) (hs : List Row) → Sound w marks hs → InsideRows w hs
sound-inside w marks hs s = record { at = λ j l u. (s.at j l u).inside }

-- and those of a hand like it
pub alike-inside : (w : Window) (hs hs' : List Row) → Alike hs' hs → InsideRows w hs → InsideRows w hs'
alike-inside w hs hs' a s = record {
  at = λ j l u. subst (λ (v : Record). Inside w v.stream v.snbase) (sym (alike-it a j)) (s.at j (omega (arith, l, alike-length a)) (ap (λ (v : Record). used v) (sym (alike-it a j)) ∙ u));
}

-- ---- a row that stays, and one that is looked at again
module _ (w : Window) (i : ℕ) (marks : List ℕ) (hs : List Row) (j : ℕ) where
  stays : ((old : List ℕ) → marks ≡ set old i 1 → used (it_at hs j) ≡ true → SoundRow w old (get_or hs j nobody) → SoundRow w marks (get_or hs j nobody)) → AgainAt w i marks j hs hs
  stays h = record { alike = alike_refl hs; row = record { right = h }; others = λ q n. refl }

  -- a free row stays
  pub free_stays : (v : Record) → v ≡ it_at hs j → (v.in_use ≡ 1 → ⊥) → AgainAt w i marks j hs hs
  free_stays v e n = stays (λ old d u. absurd (n (ap (λ (x : Record). x.in_use) e ∙ eqb-true (it_at hs j).in_use 1 u)))

  module _ (v : Record) (e : v ≡ it_at hs j) where
    -- and so does one whose group has not the position
    pub other-stays : (t : Bool) → (Inside w v.stream v.snbase → count (eqb i) (group w v.stream v.snbase) ≡ cond t 1 0) → t ≡ false → AgainAt w i marks j hs hs
    other-stays t is f = stays (λ old d u s. record {
      slot-low = s.slot-low;
      inside = s.inside;
      size_low = s.size_low;
      noted = s.noted ∙ sym (ap (λ (m : List ℕ). note_of (look m (group w (it_at hs j).stream (it_at hs j).snbase))) d ∙ note-same old (group w (it_at hs j).stream (it_at hs j).snbase) (set old i 1) (still-missing old i (group w (it_at hs j).stream (it_at hs j).snbase) (none s.inside)));
    })
      where
        none : Inside w (it_at hs j).stream (it_at hs j).snbase → count (eqb i) (group w (it_at hs j).stream (it_at hs j).snbase) ≡ 0
        none q = subst (λ (x : Record). Inside w x.stream x.snbase → count (eqb i) (group w x.stream x.snbase) ≡ cond t 1 0) e is q ∙ ap (λ (b : Bool). cond b 1 0) f

    -- one that is looked at again has the note of that look
    pub looked_again : j < length hs → (f : Look) → f ≡ look marks (group w v.stream v.snbase) → (n : ℕ) → n ≡ note_of f → (hs' : List Row) → hs' ≡ put_note hs j n → AgainAt w i marks j hs hs'
    looked_again l f ef n en hs' p =
        let here : get_or hs' j nobody ≡ record { slot = (get_or hs j nobody).slot; note = n; it = it_at hs j } = ap (λ (x : List Row). get_or x j nobody) p ∙ get_or-set_same hs j _ nobody l in
        record {
          alike = subst (λ (x : List Row). Alike x hs) (sym p) (alike-note hs j n);
          row =
              record {
                right = λ old d u s. subst (λ (h : Row). SoundRow w marks h) (sym here)
                    (record {
                      slot-low = s.slot-low;
                      inside = s.inside;
                      size_low = s.size_low;
                      noted = en ∙ ap note_of ef ∙ ap (λ (x : Record). note_of (look marks (group w x.stream x.snbase))) e;
                    });
              };
          others = λ q n. ap (λ (x : List Row). get_or x q nobody) p ∙ get_or-set_other hs j q _ nobody n;
        }

-- ---- the rows one after another
pub record AgainTo (w : Window) (i : ℕ) (marks : List ℕ) (j : ℕ) (hs hs' : List Row) : Type 0 where
  pub alike : Alike hs' hs
  pub done : (q : ℕ) → q < j → Again w i marks (get_or hs q nobody) (get_or hs' q nobody)
  pub rest : (q : ℕ) → j ≤ q → get_or hs' q nobody ≡ get_or hs q nobody

module _ (w : Window) (i : ℕ) (marks : List ℕ) where
  pub again_none : (hs : List Row) → AgainTo w i marks 0 hs hs
  again_none hs = record { alike = alike_refl hs; done = λ q l. absurd (omega (arith, l)); rest = λ q l. refl }

  pub again_more : (j : ℕ) (hs hs₁ hs₂ : List Row) → AgainTo w i marks j hs hs₁ → AgainAt w i marks j hs₁ hs₂ → AgainTo w i marks (j + 1) hs hs₂
  again_more j hs hs₁ hs₂ a b = record {
    alike = alike_trans b.alike a.alike;
    done = λ q l. go q l (eqb q j) refl;
    rest = λ q l. b.others q (λ e. omega (arith, l, e)) ∙ a.rest q (omega (arith, l));
  }
    where
      go : (q : ℕ) → q < j + 1 → (t : Bool) → eqb q j ≡ t → Again w i marks (get_or hs q nobody) (get_or hs₂ q nobody)
      go q l true e =
          let z : q ≡ j = eqb-true q j e in
          rw z (subst (λ (h : Row). Again w i marks h (get_or hs₂ j nobody)) (a.rest j (omega arith)) b.row)
      go q l false e = let n = eqb-false q j e in subst (λ (h : Row). Again w i marks (get_or hs q nobody) h) (sym (b.others q n)) (a.done q (omega (arith, l, n)))

  pub again_all : (j : ℕ) (hs hs' : List Row) → j ≡ length hs → AgainTo w i marks j hs hs' → AgainAll w i marks hs hs'
  again_all j hs hs' e a = record { alike = a.alike; rows = λ q l. a.done q (omega (arith, e, l)) }

-- a sound hand is sound again once position i is marked
pub again_sound : (w : Window) (i : ℕ) (old : List ℕ) (hs hs' : List Row) → Sound w old hs → AgainAll w i (set old i 1) hs hs' → Sound w (set old i 1) hs'
again_sound w i old hs hs' s a = record { at = λ j h u. row j (omega (arith, h, alike-length a.alike)) (ap (λ (v : Record). used v) (sym (alike-it a.alike j)) ∙ u) }
  where
    row : (j : ℕ) → j < length hs → used (it_at hs j) ≡ true → SoundRow w (set old i 1) (get_or hs' j nobody)
    row j h u = (a.rows j h).right old refl u (s.at j h u)
