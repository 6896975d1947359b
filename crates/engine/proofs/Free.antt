-- Rows that a test holds of set free are the records released that a test of the table holds of, where the two tests agree: of every table that the
-- hand is apart from. Assumes nothing.
use mathlib.Core.Path.{◌≡◌, refl, sym, ap, subst, ◌∙◌}
use mathlib.Core.Bool.{Bool, true, false, cond, ◌&&◌}
use mathlib.Core.List.{List, [], ◌∷◌}
use Prim.Native.Nat.{ℕ, zero, suc, ◌*◌, ◌<◌, ◌≤◌}
use native.Mathlib.Omega.{arith}
use lib.Dec.{eqb}
use lib.ListN.{length, get_or, set, replicate, length-set, length-replicate}
use lib.Seq.{get_or-set_same, get_or-set_other, length-paste}
use borrow.Author.Tests.{eqb-true, eqb-false}
use Rattle.window.specs.declared.Record.{Record}
use Rattle.window.specs.declared.Window.{Window}
use Rattle.window.specs.Record.{blank}
use Rattle.window.specs.Store.{stored}
use Rattle.window.specs.Group.{group, missing}
use Rattle.window.specs.Order.{used}
use Rattle.calls.specs.State.{State, scene, recount, release, release_if, release_below}
use Rattle.calls.specs.Settle.{spent, release_all}
use Rattle.table.specs.Note.{says_none, none_is}
use Rattle.table.specs.declared.Row.{Row}
use Rattle.table.specs.View.{nobody, slot_at, note_at, it_at, put, slots, scatter}
use Rattle.table.specs.Apart.{Free, Fits, get-scatter, set-scatter, apart-scatter, slots-put, same-slot, same-fits, same_length}
use Rattle.table.specs.Fold.{below, rows, fold}
use Rattle.table.specs.Sound.{SoundRow, Sound}
use Rattle.group.proofs.Rows.{row_ends}
use Rattle.engine.specs.Rows.{Desk, row_spent, free_row, free_if, free_below}

-- a desk
abbrev pub desk : Window → (parity : List ℕ) → List Row → Desk
desk w parity hs = record { window = w; parity = parity; rows = hs }

-- the first of two tests that both hold
pub first_holds : (a b : Bool) → (a && b) ≡ true → a ≡ true
first_holds true b e = refl
first_holds false b e = e

-- a spent row is in use
pub spent-used : (gs : List Row) (i : ℕ) → row_spent gs i ≡ true → used (it_at gs i) ≡ true
spent-used gs i e = first_holds (used (it_at gs i)) (says_none (note_at gs i)) e

-- ---- what is kept while rows are set free
pub record Keeps (w : Window) (marks : List ℕ) (np : ℕ) (hs : List Row) (d : Desk) : Type 0 where
  pub same : d.window ≡ recount w d.window.present d.window.in_use
  pub present : d.window.present ≡ w.present
  pub same-slots : slots d.rows ≡ slots hs
  pub long : length d.parity ≡ np
  pub sound : Sound w marks d.rows

module _ (w : Window) (marks : List ℕ) (hs : List Row) where
  -- a row set free is not in use, and the others are as they were
  sound-put : (gs : List Row) (i : ℕ) → i < length gs → Sound w marks gs → Sound w marks (put gs i blank)
  sound-put gs i l s = record { at = λ j h u. row j (simp length-set at h) u (eqb j i) refl }
    where
      row : (j : ℕ) → j < length gs → used (it_at (put gs i blank) j) ≡ true → (t : Bool) → eqb j i ≡ t → SoundRow w marks (get_or (put gs i blank) j nobody)
      row j h u true e =
          let z : j ≡ i = eqb-true j i e in
          let free : used (it_at (put gs i blank) j) ≡ false = ap (λ (n : ℕ). used (it_at (put gs i blank) n)) z ∙ ap (λ (r : Row). used r.it) (get_or-set_same gs i _ nobody l) in
          absurd (let q : ◌≡◌ {A = Bool} false true = sym free ∙ u in let n : ◌≡◌ {A = ℕ} 0 1 = cc in omega arith)
      row j h u false e =
          let n = eqb-false j i e in
          let o = get_or-set_other gs i j (record { slot = slot_at gs i; note = note_at gs i; it = blank }) nobody n in
          subst (λ (r : Row). SoundRow w marks r) (sym o) (s.at j h (ap (λ (r : Row). used r.it) (sym o) ∙ u))

  module _ (np : ℕ) (room : w.k * w.p ≤ np) where
    pub keeps-row : (d : Desk) (i : ℕ) → i < length d.rows → used (it_at d.rows i) ≡ true → Keeps w marks np hs d → Keeps w marks np hs (free_row i d)
    keeps-row d i l u k =
        let p-same : d.window.p ≡ w.p = ap (λ (v : Window). v.p) k.same in
        let ends = row_ends (slot_at d.rows i) w.k w.p (length d.parity) (k.sound.at i l u).slot-low (omega (arith, room, k.long)) in
        record {
          same = rw k.same;
          present = k.present;
          same-slots = slots-put d.rows i blank ∙ k.same-slots;
          long = length-paste d.parity (slot_at d.rows i * d.window.p) (replicate d.window.p 0) d.window.p (rw p-same ends) (simp length-replicate (omega arith)) ∙ k.long;
          sound = sound-put d.rows i l k.sound;
        }

    -- a test that holds only of rows in use
    module _ (test : List Row → ℕ → Bool) (of-used : (gs : List Row) (i : ℕ) → test gs i ≡ true → used (it_at gs i) ≡ true) where
      pub keeps_if : (d : Desk) (i : ℕ) → i < length d.rows → Keeps w marks np hs d → Keeps w marks np hs (free_if test i d)
      keeps_if d i l k = go (test d.rows i) refl
        where
          go : (t : Bool) → test d.rows i ≡ t → Keeps w marks np hs (cond t (free_row i d) d)
          go true e = keeps-row d i l (of-used d.rows i e) k
          go false e = k

      keeps_below : (d : Desk) (m : ℕ) → m ≤ length hs → Keeps w marks np hs d → Keeps w marks np hs (below (free_if test) m d)
      keeps_below d zero l k = k
      keeps_below d (suc m) l k =
          let b = keeps_below d m (omega arith) k in
          keeps_if (below (free_if test) m d) m (omega (arith, l, same_length hs (below (free_if test) m d).rows b.same-slots)) b

      pub keeps-all : (d : Desk) (m : ℕ) → m ≤ length hs → Keeps w marks np hs d → Keeps w marks np hs (free_below test m d)
      unfolding free_below
      keeps-all d m l k = keeps_below d m l k

    -- ---- of every table
    module _ (media timestamps lengths : List ℕ) (t : List Record) (f : Fits t w.k hs) (b q : ℕ) where
      -- a desk as a state
      abbrev shown : Desk → State
      shown d = scene d.window (stored media timestamps lengths marks d.parity (scatter d.rows t)) b q

      -- the record of a row
      pub row_record : (d : Desk) → Keeps w marks np hs d → (i : ℕ) → i < length hs → get_or (scatter d.rows t) (slot_at hs i) blank ≡ it_at d.rows i
      row_record d k i l =
          let fits = same-fits f d.rows k.same-slots in
          ap (λ (q : ℕ). get_or (scatter d.rows t) q blank) (sym (same-slot hs d.rows k.same-slots i)) ∙ get-scatter fits.apart fits.enough i (omega (arith, l, same_length hs d.rows k.same-slots))

      pub freed : (d : Desk) → Keeps w marks np hs d → (i : ℕ) → i < length hs → release (slot_at hs i) (shown d) ≡ shown (free_row i d)
      freed d k i l =
          let n : i < length d.rows = omega (arith, l, same_length hs d.rows k.same-slots) in
          rw (← same-slot hs d.rows k.same-slots i, set-scatter (same-fits f d.rows k.same-slots).apart i blank n)

      free-set : (u : List Record) (r q : ℕ) → Free u q → Free (set u r blank) q
      free-set [] r q e = e
      free-set (v ∷ u) zero zero e = refl
      free-set (v ∷ u) zero (suc q) e = e
      free-set (v ∷ u) (suc r) zero e = e
      free-set (v ∷ u) (suc r) (suc q) e = free-set u r q e

      -- a test of the rows and one of the table that agree, and that no free record meets
      module _ (test : List Row → ℕ → Bool) (of-used : (gs : List Row) (i : ℕ) → test gs i ≡ true → used (it_at gs i) ≡ true) (tests : State → ℕ → Bool)
          (of-taken : (r : ℕ) (x : State) → Free x.store.records r → tests x r ≡ false)
          (agree : (d : Desk) → Keeps w marks np hs d → (i : ℕ) → i < length hs → tests (shown d) (slot_at hs i) ≡ test d.rows i) where
        row_is : (d : Desk) → Keeps w marks np hs d → (i : ℕ) → i < length hs → release_if tests (slot_at hs i) (shown d) ≡ shown (free_if test i d)
        row_is d k i l = ap (λ (u : Bool). cond u (release (slot_at hs i) (shown d)) (shown d)) (agree d k i l) ∙ go (test d.rows i)
          where
            go : (u : Bool) → cond u (release (slot_at hs i) (shown d)) (shown d) ≡ shown (cond u (free_row i d) d)
            go true = freed d k i l
            go false = refl

        passed : (d : Desk) → Keeps w marks np hs d → (m : ℕ) → m ≤ length hs → rows (release_if tests) hs m (shown d) ≡ shown (below (free_if test) m d)
        passed d k zero l = refl
        passed d k (suc m) l = ap (release_if tests (slot_at hs m)) (passed d k m (omega arith)) ∙ row_is (below (free_if test) m d) (keeps_below test of-used d m (omega arith) k) m (omega arith)

        still : (r : ℕ) (x : State) → Free x.store.records r → release_if tests r x ≡ x
        still r x e = rw (of-taken r x e)

        keeps-free : (r q : ℕ) (x : State) → Free x.store.records q → Free (release_if tests r x).store.records q
        keeps-free r q x e = go (tests x r)
          where
            go : (u : Bool) → Free (cond u (release r x) x).store.records q
            go true = free-set x.store.records r q e
            go false = e

        below-is : (k : ℕ) (x : State) → release_below tests k x ≡ below (release_if tests) k x
        below-is zero x = refl
        below-is (suc k) x = ap (release_if tests k) (below-is k x)

        pub free-each : (parity : List ℕ) (v : Window) → v ≡ recount w v.present v.in_use → Keeps w marks np hs (desk v parity hs) → shown (free_below test (length hs) (desk v parity hs)) ≡ release_below tests v.k (shown (desk v parity hs))
        unfolding free_below
        free-each parity v e k =
            let d = desk v parity hs in
            let ek : v.k ≡ w.k = ap (λ (u : Window). u.k) e in
            sym
            (ap (λ (n : ℕ). release_below tests n (shown d)) ek
            ∙ below-is w.k (shown d)
            ∙ fold (λ (x : State). x.store.records) (release_if tests) still keeps-free (shown d) (apart-scatter f.apart)
            ∙ passed d k (length hs) (omega arith))

      -- ---- spent rows
      spent-is : (d : Desk) → Keeps w marks np hs d → (i : ℕ) → i < length hs → spent (shown d) (slot_at hs i) ≡ row_spent d.rows i
      spent-is d k i l = rw (row_record d k i l, k.same) (go (omega (arith, l, same_length hs d.rows k.same-slots)) (used (it_at d.rows i)) refl)
        where
          go : i < length d.rows → (u : Bool) → used (it_at d.rows i) ≡ u → (u && eqb (length (missing marks (group w (it_at d.rows i).stream (it_at d.rows i).snbase))) 0) ≡ (u && says_none (note_at d.rows i))
          go n true e = sym (ap says_none (k.sound.at i n e).noted ∙ none_is marks (group w (it_at d.rows i).stream (it_at d.rows i).snbase))
          go n false e = refl

      pub free_all : (parity : List ℕ) (v : Window) → v ≡ recount w v.present v.in_use → Keeps w marks np hs (desk v parity hs) → shown (free_below row_spent (length hs) (desk v parity hs)) ≡ release_all (shown (desk v parity hs))
      unfolding release_all
      free_all parity v e k = free-each row_spent spent-used spent (λ r x z. rw z) spent-is parity v e k
