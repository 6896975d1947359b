-- What the test of order says of a row, by the tests that it met. Assumes nothing.
use mathlib.Core.Path.{◌≡◌, refl, sym, ap, subst, ◌∙◌}
use mathlib.Core.Bool.{Bool, true, false, cond, not, ◌&&◌}
use mathlib.Core.List.{List}
use Prim.Native.Nat.{ℕ, ◌<◌, ◌≤◌, ◌^◌}
use native.Mathlib.Omega.{arith}
use lib.Dec.{leb, ltb}
use borrow.Author.Tests.{eq-eqb, ne_eqb, le-ltb, lt-ltb, not-true, not-false}
use Rattle.sequence.specs.Lists.{up_to, any}
use Rattle.sequence.proofs.Lists.{and_split}
use Rattle.rtp.specs.Faults.{no_row}
use Rattle.rtp.specs.Length.{good_length, whole-high}
use Rattle.window.specs.declared.Record.{Record}
use Rattle.window.specs.declared.Window.{Window}
use Rattle.window.specs.Limits.{width, least_missing}
use Rattle.window.specs.Bounds.{SetUp}
use Rattle.window.specs.declared.Look.{Look}
use Rattle.window.specs.Group.{group, inside}
use Rattle.window.specs.Look.{look, at_least, waits-is}
use Rattle.window.specs.Order.{used, shape_good}
use Rattle.window.specs.Plain.{Inside, inside_of}
use Rattle.table.specs.declared.Row.{Row}
use Rattle.table.specs.View.{slot_at, it_at}
use Rattle.table.specs.Note.{note_of}
use Rattle.table.specs.Sound.{SoundRow}
use Rattle.order.specs.declared.Looked.{Looked}
use Rattle.order.specs.Rows.{names, missing_of}
use Rattle.order.proofs.Scattered.{row_by}

-- a shape that is good lies in the window
pub shape_inside : (w : Window) → w.base < 2 ^ width → SetUp w → (stream snbase : ℕ) → shape_good w stream snbase ≡ true → Inside w stream snbase
shape_inside w based u stream snbase e = inside_of w based u stream snbase (and_split (leb stream 1 && not (no_row stream w.l)) (inside w stream snbase) e).1

-- what is said of row i, whose record is v: whether it is free or good, 1 if it is in use, and the note of a look at its group
abbrev pub Told : Window → (marks : List ℕ) → List Row → ℕ → Record → Bool → ℕ → ℕ → Type 0
Told w marks hs i v good n c =
    (good ≡ row_by w marks v (slot_at hs i) (any (names hs v) (up_to i))) × (n ≡ cond (used v) 1 0) × (good ≡ true → used v ≡ true → SoundRow w marks (record { slot = slot_at hs i; note = c; it = v }))

no_way : {A : Type 0} → false ≡ true → A
no_way e = absurd (let z : ◌≡◌ {A = ℕ} 0 1 = cc in omega arith)

cond-true : (z x : Bool) → z ≡ true → true ≡ cond z true x
cond-true z x e = rw e

cond-false : (z x : Bool) → z ≡ false → x ≡ false → false ≡ cond z true x
cond-false z x e f = rw (e, f)

cond_last : (z x y : Bool) → z ≡ false → y ≡ x → y ≡ cond z true x
cond_last z x y e f = rw e f

flag-no : (b : Bool) → b ≡ false → ◌≡◌ {A = ℕ} 0 (cond b 1 0)
flag-no b e = rw e

flag-yes : (b : Bool) → b ≡ true → ◌≡◌ {A = ℕ} 1 (cond b 1 0)
flag-yes b e = rw e

and_left : (a b : Bool) → a ≡ false → (a && b) ≡ false
and_left a b e = rw e

and_right : (a b : Bool) → b ≡ false → (a && b) ≡ false
and_right true b e = e
and_right false b e = refl

module _ (w : Window) (marks : List ℕ) (hs : List Row) (i : ℕ) (v : Record) (e : v ≡ it_at hs i) where
  -- as it is said in the contract
  told : (good : Bool) (n c : ℕ) → Told w marks hs i v good n c → Told w marks hs i (it_at hs i) good n c
  told good n c h = subst (λ (u : Record). Told w marks hs i u good n c) e h

  -- a free row
  pub free_row_lem : v.in_use ≡ 0 → Told w marks hs i (it_at hs i) true 0 0
  free_row_lem z =
      let o = ne_eqb v.in_use 1 (λ o. omega arith) in
      told true 0 0 (cond-true _ _ (eq-eqb v.in_use 0 z), flag-no (used v) o, λ g u. no_way (sym o ∙ u))

  module _ (r : Looked) (n : ℕ) (is : r ≡ record { good = false; used = n; note = 0 }) where
    -- a row that is refused
    refused : Told w marks hs i v false n 0 → Told w marks hs i (it_at hs i) r.good r.used r.note
    refused h = rw is (told false n 0 h)

  -- a mark that is neither 0 nor 1
  pub odd-row : (r : Looked) → r ≡ record { good = false; used = 0; note = 0 } → (v.in_use ≡ 0 → ⊥) → (v.in_use ≡ 1 → ⊥) → Told w marks hs i (it_at hs i) r.good r.used r.note
  odd-row r is z o =
      let p = ne_eqb v.in_use 1 o in
      refused r 0 is (cond-false _ _ (ne_eqb v.in_use 0 z) (and_left _ _ p), flag-no (used v) p, λ g u. no_way g)

  module _ (r : Looked) (is : r ≡ record { good = false; used = 1; note = 0 }) (one : v.in_use ≡ 1) where
    bad_row : (ltb (slot_at hs i) w.k && (shape_good w v.stream v.snbase && (good_length w.p v.payload_length && (not (any (names hs v) (up_to i)) && leb least_missing (missing_of w marks v))))) ≡ false → Told w marks hs i (it_at hs i) r.good r.used r.note
    bad_row h = refused r 1 is (cond-false _ _ (ne_eqb v.in_use 0 (λ z. omega arith)) (and_right (used v) _ h), flag-yes (used v) (eq-eqb v.in_use 1 one), λ g u. no_way g)

    -- a slot that is none of the window's records
    pub high-row : (s : ℕ) → s ≡ slot_at hs i → w.k ≤ s → Told w marks hs i (it_at hs i) r.good r.used r.note
    high-row s es h = bad_row (and_left _ _ (le-ltb (slot_at hs i) w.k (omega arith)))

    -- a bad shape
    pub shapeless_row : (b : Bool) → b ≡ shape_good w v.stream v.snbase → not b ≡ true → Told w marks hs i (it_at hs i) r.good r.used r.note
    shapeless_row b eb h = bad_row (and_right (ltb (slot_at hs i) w.k) _ (and_left _ _ (sym eb ∙ not-true b h)))

    -- a length that no payload has
    pub lengthless_row : (b : Bool) → b ≡ good_length w.p v.payload_length → not b ≡ true → Told w marks hs i (it_at hs i) r.good r.used r.note
    lengthless_row b eb h = bad_row (and_right (ltb (slot_at hs i) w.k) _ (and_right (shape_good w v.stream v.snbase) _ (and_left _ _ (sym eb ∙ not-true b h))))

    -- a group that a row before has
    pub repeated-row : (b : Bool) → b ≡ any (names hs v) (up_to i) → b ≡ true → Told w marks hs i (it_at hs i) r.good r.used r.note
    repeated-row b eb h = bad_row (and_right (ltb (slot_at hs i) w.k) _ (and_right (shape_good w v.stream v.snbase) _ (and_right (good_length w.p v.payload_length) _ (and_left _ _ (ap not (sym eb ∙ h))))))

  -- a row in use whose group waits, or not
  pub waiting-row : SetUp w → w.base < 2 ^ width → v.in_use ≡ 1 → (s : ℕ) → s ≡ slot_at hs i → s < w.k → (b : Bool) → b ≡ shape_good w v.stream v.snbase → not b ≡ false → (y : Bool) → y ≡ good_length w.p v.payload_length → not y ≡ false → (d : Bool) → d ≡ any (names hs v) (up_to i) → d ≡ false
      → (f : Look) → f ≡ look marks (group w v.stream v.snbase) → (g : Bool) → g ≡ leb least_missing (at_least f) → (c : ℕ) → c ≡ note_of f → Told w marks hs i (it_at hs i) g 1 c
  waiting-row u based one s es low b eb good y ey sized d ed alone f ef g eg c ec =
      let l = lt-ltb (slot_at hs i) w.k (omega arith) in
      let h = sym eb ∙ not-false b good in
      let z = sym ey ∙ not-false y sized in
      told
      g
      1
      c (
        cond_last _ _ _ (ne_eqb v.in_use 0 (λ z. omega arith)) (and-all _ _ _ _ _ _ _ (eq-eqb v.in_use 1 one) l h z (sym ed ∙ alone) (eg ∙ ap (λ (x : Look). leb least_missing (at_least x)) ef ∙ waits-is marks (group w v.stream v.snbase))),
        flag-yes (used v) (eq-eqb v.in_use 1 one),
        λ _ q. record { slot-low = omega arith; inside = shape_inside w based u v.stream v.snbase h; size_low = whole-high w.p w.p v.payload_length z; noted = ec ∙ ap note_of ef },
      )
    where
      and-all : (o l h z n x y : Bool) → o ≡ true → l ≡ true → h ≡ true → z ≡ true → n ≡ false → y ≡ x → y ≡ (o && (l && (h && (z && (not n && x)))))
      and-all o l h z n x y eo el eh ez en e = rw (eo, el, eh, ez, en) e
