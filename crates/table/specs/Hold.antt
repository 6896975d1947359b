-- The first free record, as the rows show it, and a record that is taken into the hand. Assumes nothing.
use Rattle.std.specs.Prelude.{◌≡◌, refl, Bool, true, false, cond, not, ◌&&◌, List, [], ◌∷◌, ◌++◌, ℕ, zero, suc, ◌+◌, ◌-◌, ◌<◌, ◌≤◌, eqb, length, get_or, set, take, drop}
use Rattle.std.proofs.Common.{sym, ap, subst, ◌∙◌, ⊎_elim, eq-or-lt_of_le, not-suc-le-zero, le_of_suc-le-suc, zero-add, arith, add-one, length-set, length-drop, set-set, get_or-take, drop-cons, take-suc, length-take-le, take-take, get_or-set_other, get_or-drop, eq-eqb, ne_eqb}
use Rattle.std.proofs.Math.ListN.{get_or-append}
use Rattle.std.proofs.lemmas.List.{set_comm, set_at, set_split}
use Rattle.std.proofs.Math.Seq.{append_snoc, drop-length, take-set-lt}
use Rattle.sequence.specs.Lists.{up_to, keep, head_or, count}
use Rattle.sequence.proofs.Lists.{keep_append, count-more}
use Rattle.window.specs.declared.Record.{Record}
use Rattle.window.specs.Record.{blank}
use Rattle.window.specs.Order.{used}
use Rattle.table.specs.View.{Row, nobody, slot_at, note_at, it_at, put, scatter}
use Rattle.table.specs.Apart.{Apart, done, free, held, ends, least, get-scatter, apart-scatter, Within, Fits}

-- the first number from q on that is not the slot of a row in use, where the rows' slots are from q on
abbrev pub gap_from : ℕ → List Row → ℕ
gap_from q [] = q
gap_from q (h ∷ hs) = cond (eqb h.slot q && eqb h.it.in_use 1) (gap_from (q + 1) hs) q

-- a gap from q on is from q on
beyond : (q : ℕ) (hs : List Row) → q ≤ gap_from q hs
beyond q [] = omega arith
beyond q (h ∷ hs) = go (eqb h.slot q && eqb h.it.in_use 1) (beyond (q + 1) hs)
  where
    go : (b : Bool) → q + 1 ≤ gap_from (q + 1) hs → q ≤ cond b (gap_from (q + 1) hs) q
    go true l = omega arith
    go false l = omega arith

-- where the slots are beyond q, q is a gap
past : (q : ℕ) (hs : List Row) → ((i : ℕ) → i < length hs → suc q ≤ slot_at hs i) → gap_from q hs ≡ q
past q [] l = refl
past q (h ∷ hs) l = let n = l 0 (omega arith) in rw (ne_eqb h.slot q (λ e. omega arith))

-- record r of a table is not in use
abbrev pub unused_at : List Record → ℕ → Bool
unused_at rs r = not (eqb (get_or rs r blank).in_use 1)

-- the first of the first k records that is not in use, or k
abbrev pub first_free : ℕ → List Record → ℕ
first_free k rs = head_or k (keep (unused_at rs) (up_to k))

module _ (test : ℕ → Bool) where
  -- the first of n numbers from q on of which a test holds, or q + n
  abbrev from : (q n : ℕ) → ℕ
  from q zero = q
  from q (suc n) = cond (test q) q (from (q + 1) n)

  -- the first element of two lists
  head-append : (o : ℕ) (l m : List ℕ) → head_or o (l ++ m) ≡ head_or (head_or o m) l
  head-append o [] m = refl
  head-append o (i ∷ l) m = refl

  -- a test that holds of no number keeps none
  keep-none : (k : ℕ) → ((r : ℕ) → r < k → test r ≡ false) → keep test (up_to k) ≡ []
  keep-none zero h = refl
  keep-none (suc k) h = rw (keep_append test (up_to k) (k ∷ []), keep-none k (λ r l. h r (omega arith)), h k (omega arith))

  -- the first number of which a test holds is the first that it keeps
  keep-first : (k g o : ℕ) → g < k → ((r : ℕ) → r < g → test r ≡ false) → test g ≡ true → head_or o (keep test (up_to k)) ≡ g
  keep-first zero g o l h t = absurd (not-suc-le-zero l)
  keep-first (suc k) g o l h t =
      ⊎_elim
      (λ e. rw (keep_append test (up_to k) (k ∷ []), keep-none k (λ r z. h r (omega arith)), ← e, t))
      (λ z. rw (keep_append test (up_to k) (k ∷ []), head-append o (keep test (up_to k)) (keep test (k ∷ []))) (keep-first k g (head_or o (keep test (k ∷ []))) z h t))
      (eq-or-lt_of_le (le_of_suc-le-suc l))

  -- what a test does not hold of below q, and not of q, it does not hold of below q + 1
  none_more : (q : ℕ) → ((r : ℕ) → r < q → test r ≡ false) → test q ≡ false → (r : ℕ) → r < q + 1 → test r ≡ false
  none_more q h t r l = ⊎_elim (λ e. rw e t) (λ z. h r z) (eq-or-lt_of_le (le_of_suc-le-suc (rw (add-one q) at l)))

  -- so the first that a test keeps is found one by one
  from_is : (n q : ℕ) → ((r : ℕ) → r < q → test r ≡ false) → head_or (q + n) (keep test (up_to (q + n))) ≡ from q n
  from_is zero q h = let z : q + 0 ≡ q = omega arith in rw (z, keep-none q h)
  from_is (suc n) q h = go (test q) refl (from_is n (q + 1))
    where
      go : (b : Bool) → test q ≡ b → (((r : ℕ) → r < q + 1 → test r ≡ false) → head_or (q + 1 + n) (keep test (up_to (q + 1 + n))) ≡ from (q + 1) n) → head_or (q + suc n) (keep test (up_to (q + suc n))) ≡ cond b q (from (q + 1) n)
      go true e rest = keep-first (q + suc n) q (q + suc n) (omega arith) h e
      go false e rest = let s : q + suc n ≡ q + 1 + n = omega arith in rw s (rest (none_more q h e))

-- a choice and the same choice the other way round
turned : (b : Bool) (m n : ℕ) → cond (not b) m n ≡ cond b n m
turned true m n = refl
turned false m n = refl

-- the first record from q on that is not in use, as the rows show it
gap_is : {rs : List Record} {k q : ℕ} {hs : List Row} → Apart rs k q hs → ((i : ℕ) → i < length hs → get_or rs (slot_at hs i) blank ≡ it_at hs i) → from (unused_at rs) q (k - q) ≡ gap_from q hs
gap_is {rs} {k} done a = let z : k - k ≡ 0 = omega arith in rw z
gap_is {rs} {k} {q} {hs} (free f d) a =
    let s : k - q ≡ suc (k - (q + 1)) = omega (arith, ends d) in rw (s, f) (sym (past q hs (λ i l. (least d i l).0)))
gap_is {rs} {k} {q} (held hs c v d) a =
    let s : k - q ≡ suc (k - suc q) = omega (arith, ends d) in
    rw (s, a 0 (omega arith), eq-eqb q q refl, add-one q) (turned (eqb v.in_use 1) q (from (unused_at rs) (suc q) (k - suc q)) ∙ ap (λ (n : ℕ). cond (eqb v.in_use 1) n q) (gap_is d (λ i l. a (suc i) (omega arith))))

-- the first record of the scattered table that is not in use, as the rows show it
pub first_free-rows : {t : List Record} {k : ℕ} (hs : List Row) → Apart t k 0 hs → k ≤ length t → first_free k (scatter hs t) ≡ gap_from 0 hs
first_free-rows {t} {k} hs d n =
    let z : k ≡ k - 0 = omega arith in
    ap (λ (m : ℕ). first_free m (scatter hs t)) (sym (zero-add k)) ∙ from_is (unused_at (scatter hs t)) k 0 (λ r l. absurd (not-suc-le-zero l)) ∙ ap (from (unused_at (scatter hs t)) 0) z ∙ gap_is (apart-scatter d) (get-scatter d n)

-- a record goes into the first free record: into its row, whose note stays, or into a new row with note 0
abbrev pub hold_in : ℕ → Record → List Row → List Row
hold_in q v [] = record { slot = q; note = 0; it = v } ∷ []
hold_in q v (h ∷ hs) = cond (eqb h.slot q) (cond (eqb h.it.in_use 1) (h ∷ hold_in (q + 1) v hs) (record { slot = q; note = h.note; it = v } ∷ hs)) (record { slot = q; note = 0; it = v } ∷ h ∷ hs)

-- where the slots are beyond q, the row goes to the front
front : (q : ℕ) (v : Record) (hs : List Row) → ((i : ℕ) → i < length hs → suc q ≤ slot_at hs i) → hold_in q v hs ≡ record { slot = q; note = 0; it = v } ∷ hs
front q v [] l = refl
front q v (h ∷ hs) l = let n = l 0 (omega arith) in rw (ne_eqb h.slot q (λ e. omega arith))

-- the hand is still apart from the table
pub hold-apart : {t : List Record} {k q : ℕ} {hs : List Row} → Apart t k q hs → (v : Record) → gap_from q hs < k → Apart t k q (hold_in q v hs)
hold-apart done v l = absurd (omega arith)
hold-apart {t} {k} {q} {hs} (free f d) v l = rw (front q v hs (λ i h. (least d i h).0)) (held hs 0 v d)
hold-apart {t} {k} {q} (held hs c w d) v l = rw (eq-eqb q q refl) (go (eqb w.in_use 1) refl (λ h. hold-apart d v h))
  where
    go : (b : Bool) → eqb w.in_use 1 ≡ b → (gap_from (suc q) hs < k → Apart t k (suc q) (hold_in (suc q) v hs)) → Apart t k q (cond b (record { slot = q; note = c; it = w } ∷ hold_in (q + 1) v hs) (record { slot = q; note = c; it = v } ∷ hs))
    go true e r = rw (add-one q) (held (hold_in (suc q) v hs) c w (r (rw (eq-eqb q q refl, e, add-one q) at l)))
    go false e r = held hs c v d

-- and the table has the record at its first free record
pub hold-scatter : {t : List Record} {k q : ℕ} {hs : List Row} → Apart t k q hs → (v : Record) → scatter (hold_in q v hs) t ≡ set (scatter hs t) (gap_from q hs) v
unfolding scatter
hold-scatter done v = refl
hold-scatter {t} {k} {q} {hs} (free f d) v = rw (front q v hs (λ i h. (least d i h).0), past q hs (λ i h. (least d i h).0))
hold-scatter {t} {k} {q} (held hs c w d) v = rw (eq-eqb q q refl) (go (eqb w.in_use 1) (hold-scatter d v) (beyond (suc q) hs))
  where
    go : (b : Bool) → scatter (hold_in (suc q) v hs) t ≡ set (scatter hs t) (gap_from (suc q) hs) v → suc q ≤ gap_from (suc q) hs
        → scatter (cond b (record { slot = q; note = c; it = w } ∷ hold_in (q + 1) v hs) (record { slot = q; note = c; it = v } ∷ hs)) t ≡ set (set (scatter hs t) q w) (cond b (gap_from (q + 1) hs) q) v
    go true e l = rw (add-one q) (ap (λ (rs : List Record). set rs q w) e ∙ set_comm (scatter hs t) (gap_from (suc q) hs) q v w (λ n. omega arith))
    go false e l = sym (set-set (scatter hs t) q w v)

-- r is the first free record, and the rows before r stay where a record is held in it
pub record FirstFree (m : ℕ) (gs : List Row) (r : ℕ) : Type 0 where
  pub is : r ≡ gap_from 0 gs
  pub gap : gap_from r (drop r gs) ≡ r
  pub few : r ≤ m
  pub stay : (v : Record) → hold_in 0 v gs ≡ take r gs ++ hold_in r v (drop r gs)

-- what is known after i rows
pub record Passed (gs : List Row) (i : ℕ) : Type 0 where
  pub gap : gap_from 0 gs ≡ gap_from i (drop i gs)
  pub stay : (v : Record) → hold_in 0 v gs ≡ take i gs ++ hold_in i v (drop i gs)

module _ (hs : List Row) (i : ℕ) (h : i < length hs) (p : Passed hs i) where
  -- the rows from i on begin with row i
  here : drop i hs ≡ get_or hs i nobody ∷ drop (suc i) hs
  here = drop-cons hs i nobody h

  -- row i is not a row in use with slot i: the search ends there
  pub stops : (eqb (slot_at hs i) i && eqb (it_at hs i).in_use 1) ≡ false → FirstFree (length hs) hs i
  stops f = record { is = sym (p.gap ∙ rw (here, f)); gap = rw (here, f); few = omega arith; stay = p.stay }

  -- the search goes on after a row in use with its own number as slot
  pub goes : (eqb (slot_at hs i) i && eqb (it_at hs i).in_use 1) ≡ true → Passed hs (i + 1)
  goes a =
      record {
        gap = p.gap ∙ rw (here, a, add-one i);
        stay =
            λ x. p.stay x ∙ ap (λ (gs : List Row). take i hs ++ hold_in i x gs) here ∙ ap (λ (gs : List Row). take i hs ++ gs) (held_on (get_or hs i nobody) x (drop (suc i) hs) a)
            ∙ sym (append_snoc (take i hs) (get_or hs i nobody) (hold_in (suc i) x (drop (suc i) hs))) ∙ ap (λ (gs : List Row). gs ++ hold_in (suc i) x (drop (suc i) hs)) (sym (take-suc hs i nobody h))
            ∙ ap (λ (j : ℕ). take j hs ++ hold_in j x (drop j hs)) (sym (add-one i));
      }
    where
      held_on : (g : Row) (x : Record) (gs : List Row) → (eqb g.slot i && eqb g.it.in_use 1) ≡ true → hold_in i x (g ∷ gs) ≡ g ∷ hold_in (suc i) x gs
      held_on g x gs e = go (eqb g.slot i) (eqb g.it.in_use 1) e
        where
          go : (b d : Bool) → (b && d) ≡ true → cond b (cond d (g ∷ hold_in (i + 1) x gs) (record { slot = i; note = g.note; it = x } ∷ gs)) (record { slot = i; note = 0; it = x } ∷ g ∷ gs) ≡ g ∷ hold_in (suc i) x gs
          go true true z = rw (add-one i) refl
          go true false z = absurd (let w : ◌≡◌ {A = ℕ} 0 1 = cc in omega arith)
          go false d z = absurd (let w : ◌≡◌ {A = ℕ} 0 1 = cc in omega arith)

-- at first no row is passed
pub none_passed : (gs : List Row) → Passed gs 0
none_passed gs = record { gap = refl; stay = λ v. refl }

-- where each row is passed the next number is free
pub all-passed : (hs : List Row) (i : ℕ) → i ≡ length hs → Passed hs i → FirstFree (length hs) hs (length hs)
all-passed hs i e p =
    let n : drop (length hs) hs ≡ [] = drop-length hs in
    let z : Passed hs (length hs) = subst (Passed hs) e p in
    record { is = sym (z.gap ∙ rw n); gap = rw n; few = omega arith; stay = z.stay }

-- of the first m rows those from i on have moved on by one, and hs' has its own row i
pub record Shifted (i m : ℕ) (hs hs' : List Row) : Type 0 where
  pub rows : take (suc m) hs' ≡ take i (take m hs) ++ get_or hs' i nobody ∷ drop i (take m hs)
  pub long : length hs' ≡ length hs

-- at first no row has moved
pub unshifted : (m : ℕ) (hs : List Row) → m < length hs → Shifted m m hs hs
unshifted m hs l =
    let a : take m (take m hs) ≡ take m hs = take-take m m hs (omega arith) in
    let b : drop m (take m hs) ≡ [] = ap (λ (j : ℕ). drop j (take m hs)) (sym (length-take-le m hs (omega arith))) ∙ drop-length (take m hs) in
    record { rows = rw (a, b) (take-suc hs m nobody l); long = refl }

module _ (m : ℕ) (hs : List Row) (l : m < length hs) where
  -- row i is written
  pub put-row : (i : ℕ) (hs₁ hs₂ : List Row) (h : Row) → i ≤ m → Shifted i m hs hs₁ → hs₂ ≡ set hs₁ i h → take (suc m) hs₂ ≡ take i (take m hs) ++ h ∷ drop i (take m hs)
  put-row i hs₁ hs₂ h n s e =
      ap (take (suc m)) e ∙ take-set-lt (suc m) hs₁ i h (omega arith) ∙ ap (λ (gs : List Row). set gs i h) s.rows
      ∙ set_at (take i (take m hs)) (get_or hs₁ i nobody) (drop i (take m hs)) h i (length-take-le i (take m hs) (omega (arith, length-take-le m hs (omega arith))))

  -- row i is as it was while the rows beyond it move
  pub row_before : (i : ℕ) (hs₁ : List Row) → i ≤ m → Shifted i m hs hs₁ → (j : ℕ) → j < i → get_or hs₁ j nobody ≡ get_or (take m hs) j nobody
  row_before i hs₁ n s j h =
      sym (get_or-take (suc m) hs₁ j nobody (omega arith)) ∙ ap (λ (gs : List Row). get_or gs j nobody) s.rows
      ∙ get_or-append (take i (take m hs)) (get_or hs₁ i nobody ∷ drop i (take m hs)) nobody j (omega (arith, length-take-le i (take m hs) (omega (arith, length-take-le m hs (omega arith))))) ∙ get_or-take i (take m hs) j nobody h

  -- one row more has moved
  pub shift-more : (i : ℕ) (hs₁ hs₂ : List Row) → 0 < i → i ≤ m → Shifted i m hs hs₁ → hs₂ ≡ set hs₁ i (get_or hs₁ (i - 1) nobody) → Shifted (i - 1) m hs hs₂
  shift-more i hs₁ hs₂ z n s e =
      let g : Row = get_or (take m hs) (i - 1) nobody in
      let lm : length (take m hs) ≡ m = length-take-le m hs (omega arith) in
      let si : suc (i - 1) ≡ i = omega arith in
      let a : get_or hs₁ (i - 1) nobody ≡ g = row_before i hs₁ n s (i - 1) (omega arith) in
      let b : get_or hs₂ (i - 1) nobody ≡ g = ap (λ (gs : List Row). get_or gs (i - 1) nobody) e ∙ get_or-set_other hs₁ i (i - 1) (get_or hs₁ (i - 1) nobody) nobody (λ q. omega arith) ∙ a in
      let d : drop (i - 1) (take m hs) ≡ g ∷ drop i (take m hs) = drop-cons (take m hs) (i - 1) nobody (omega arith) ∙ ap (λ (j : ℕ). g ∷ drop j (take m hs)) si in
      let t : take i (take m hs) ≡ take (i - 1) (take m hs) ++ (g ∷ []) = ap (λ (j : ℕ). take j (take m hs)) (sym si) ∙ take-suc (take m hs) (i - 1) nobody (omega arith) in
      record {
        rows =
            put-row i hs₁ hs₂ (get_or hs₁ (i - 1) nobody) n s e ∙ ap (λ (h : Row). take i (take m hs) ++ h ∷ drop i (take m hs)) a ∙ ap (λ (gs : List Row). gs ++ g ∷ drop i (take m hs)) t
            ∙ append_snoc (take (i - 1) (take m hs)) g (g ∷ drop i (take m hs)) ∙ ap (λ (gs : List Row). take (i - 1) (take m hs) ++ g ∷ gs) (sym d) ∙ ap (λ (h : Row). take (i - 1) (take m hs) ++ h ∷ drop (i - 1) (take m hs)) (sym b);
        long = ap length e ∙ length-set hs₁ i (get_or hs₁ (i - 1) nobody) ∙ s.long;
      }

-- at a gap the record goes into the row that has its slot, or before the rows
own_row : (q : ℕ) (v : Record) (h : Row) (hs : List Row) → gap_from q (h ∷ hs) ≡ q → h.slot ≡ q → hold_in q v (h ∷ hs) ≡ record { slot = q; note = h.note; it = v } ∷ hs
own_row q v h hs g e = rw (eq-eqb h.slot q e) (go (eqb h.it.in_use 1) (rw (eq-eqb h.slot q e) at g))
  where
    go : (b : Bool) → cond b (gap_from (q + 1) hs) q ≡ q → cond b (h ∷ hold_in (q + 1) v hs) (record { slot = q; note = h.note; it = v } ∷ hs) ≡ record { slot = q; note = h.note; it = v } ∷ hs
    go true n = absurd (omega (arith, beyond (q + 1) hs))
    go false n = refl

-- a record whose slot no row has goes before the rows
new_row : (q : ℕ) (v : Record) (hs : List Row) → (0 < length hs → slot_at hs 0 ≡ q → ⊥) → hold_in q v hs ≡ record { slot = q; note = 0; it = v } ∷ hs
new_row q v [] n = refl
new_row q v (h ∷ hs) n = rw (ne_eqb h.slot q (n (omega arith)))

module _ (m : ℕ) (hs : List Row) (l : m < length hs) (r : ℕ) (f : FirstFree m (take m hs) r) (v : Record) where
  -- there are m rows
  lm : length (take m hs) ≡ m
  lm = length-take-le m hs (omega arith)

  -- the record is written into its row
  pub in_row : (hs' : List Row) → r < m → slot_at hs r ≡ r → hs' ≡ put hs r v → take m hs' ≡ hold_in 0 v (take m hs)
  in_row hs' h e p =
      let g : Row = get_or (take m hs) r nobody in
      let eg : g ≡ get_or hs r nobody = get_or-take m hs r nobody h in
      let d : drop r (take m hs) ≡ g ∷ drop (suc r) (take m hs) = drop-cons (take m hs) r nobody (omega (arith, lm)) in
      let o : hold_in r v (drop r (take m hs)) ≡ record { slot = r; note = g.note; it = v } ∷ drop (suc r) (take m hs) = rw d (own_row r v g (drop (suc r) (take m hs)) (rw d at f.gap) (ap (λ (x : Row). x.slot) eg ∙ e)) in
      ap (take m) p ∙ take-set-lt m hs r (record { slot = slot_at hs r; note = note_at hs r; it = v }) h ∙ set_split (take m hs) r (record { slot = slot_at hs r; note = note_at hs r; it = v }) (omega (arith, lm))
      ∙ ap (λ (n : ℕ). take r (take m hs) ++ record { slot = n; note = note_at hs r; it = v } ∷ drop (suc r) (take m hs)) e ∙ ap (λ (x : Row). take r (take m hs) ++ record { slot = r; note = x.note; it = v } ∷ drop (suc r) (take m hs)) (sym eg) ∙ ap (λ (gs : List Row). take r (take m hs) ++ gs) (sym o) ∙ sym (f.stay v)

  -- the record is written into a new row
  pub in_new_row : (hs₁ hs₂ : List Row) (w : ℕ) → w ≡ r → (r < m → slot_at hs r ≡ r → ⊥) → Shifted r m hs hs₁ → hs₂ ≡ set hs₁ r (record { slot = w; note = 0; it = v }) → take (m + 1) hs₂ ≡ hold_in 0 v (take m hs)
  in_new_row hs₁ hs₂ w is n s e =
      let o : hold_in r v (drop r (take m hs)) ≡ record { slot = r; note = 0; it = v } ∷ drop r (take m hs) = new_row r v (drop r (take m hs)) (λ z q. n (omega (arith, lm, length-drop r (take m hs))) (sym (ap (λ (x : Row). x.slot) (at_row z)) ∙ q)) in
      rw (add-one m) (put-row m hs l r hs₁ hs₂ (record { slot = r; note = 0; it = v }) f.few s (e ∙ ap (λ (j : ℕ). set hs₁ r (record { slot = j; note = 0; it = v })) is) ∙ ap (λ (gs : List Row). take r (take m hs) ++ gs) (sym o) ∙ sym (f.stay v))
    where
      at_row : 0 < length (drop r (take m hs)) → get_or (drop r (take m hs)) 0 nobody ≡ get_or hs r nobody
      at_row z = let k : r + 0 ≡ r = omega arith in get_or-drop r (take m hs) 0 nobody ∙ ap (λ (j : ℕ). get_or (take m hs) j nobody) k ∙ get_or-take m hs r nobody (omega (arith, lm, length-drop r (take m hs)))

  -- the new row is one of the first m + 1
  pub free_below_lem : r < m + 1
  free_below_lem = omega (arith, f.few)

-- so a record that is held in the hand is held in the first free record of the table
pub held_in_table : {t : List Record} {k : ℕ} (hs : List Row) → Apart t k 0 hs → k ≤ length t → (v : Record) → scatter (hold_in 0 v hs) t ≡ set (scatter hs t) (first_free k (scatter hs t)) v
held_in_table {t} hs d n v = hold-scatter d v ∙ ap (λ (r : ℕ). set (scatter hs t) r v) (sym (first_free-rows hs d n))

-- every slot is below n where the slots of the hand are, and the first free number
pub hold-within : (n q : ℕ) (v : Record) (hs : List Row) → Within n hs → gap_from q hs < n → Within n (hold_in q v hs)
hold-within n q v [] w g zero l = g
hold-within n q v [] w g (suc i) l = absurd (not-suc-le-zero (le_of_suc-le-suc l))
hold-within n q v (h ∷ hs) w g i l = go (eqb h.slot q) (eqb h.it.in_use 1) (hold-within n (q + 1) v hs (λ j z. w (suc j) (omega arith))) g i l
  where
    go : (a b : Bool) → (gap_from (q + 1) hs < n → Within n (hold_in (q + 1) v hs)) → cond (a && b) (gap_from (q + 1) hs) q < n
        → Within n (cond a (cond b (h ∷ hold_in (q + 1) v hs) (record { slot = q; note = h.note; it = v } ∷ hs)) (record { slot = q; note = 0; it = v } ∷ h ∷ hs))
    go true true r g zero l = w 0 (omega arith)
    go true true r g (suc i) l = r g i (le_of_suc-le-suc l)
    go true false r g zero l = g
    go true false r g (suc i) l = w (suc i) l
    go false b r g zero l = g
    go false b r g (suc i) l = w i (le_of_suc-le-suc l)

-- at most one row more is held
pub hold-length : (q : ℕ) (v : Record) (hs : List Row) → (length hs ≤ length (hold_in q v hs)) × (length (hold_in q v hs) ≤ length hs + 1)
hold-length q v [] = (omega arith, omega arith)
hold-length q v (h ∷ hs) = go (eqb h.slot q) (eqb h.it.in_use 1) (hold-length (q + 1) v hs)
  where
    go : (a b : Bool) → (length hs ≤ length (hold_in (q + 1) v hs)) × (length (hold_in (q + 1) v hs) ≤ length hs + 1)
        → (suc (length hs) ≤ length (cond a (cond b (h ∷ hold_in (q + 1) v hs) (record { slot = q; note = h.note; it = v } ∷ hs)) (record { slot = q; note = 0; it = v } ∷ h ∷ hs))) × (length (cond a (cond b (h ∷ hold_in (q + 1) v hs) (record { slot = q; note = h.note; it = v } ∷ hs)) (record { slot = q; note = 0; it = v } ∷ h ∷ hs)) ≤ suc (length hs) + 1)
    go true true e = (omega arith, omega arith)
    go true false e = (omega arith, omega arith)
    go false b e = (omega arith, omega arith)

module _ {t : List Record} {k : ℕ} {hs : List Row} (f : Fits t k hs) (v : Record) where
  -- every slot is below n where the slots of the hand are, and the first free record of the table
  pub held-within : (n : ℕ) → Within n hs → first_free k (scatter hs t) < n → Within n (hold_in 0 v hs)
  held-within n w l = hold-within n 0 v hs w (omega (arith, first_free-rows hs f.apart f.enough))

  -- the hand fits the table where there is a free record
  pub held_fits : first_free k (scatter hs t) < k → Fits t k (hold_in 0 v hs)
  held_fits l = record { apart = hold-apart f.apart v (omega (arith, first_free-rows hs f.apart f.enough)); enough = f.enough }

-- ---- the first free record lies no further than as many records as are in use

count-suc : (P : ℕ → Bool) (n : ℕ) → count P (up_to (suc n)) ≡ count P (up_to n) + cond (P n) 1 0
count-suc P n = ap (λ (k : ℕ). count P (up_to k)) (sym (add-one n)) ∙ count-more P n

-- the first number apart
count-front : (P : ℕ → Bool) (n : ℕ) → count P (up_to (suc n)) ≡ cond (P 0) 1 0 + count (λ i. P (suc i)) (up_to n)
count-front P zero = count-suc P 0 ∙ omega arith
count-front P (suc n) = count-suc P (suc n) ∙ omega (arith, count-front P n, count-suc (λ i. P (suc i)) n)

-- how many rows are in use
abbrev pub used_rows : List Row → ℕ
used_rows hs = count (λ i. used (it_at hs i)) (up_to (length hs))

pub gap-few : (q : ℕ) (hs : List Row) → gap_from q hs ≤ q + used_rows hs
gap-few q [] = omega arith
gap-few q (h ∷ hs) = go (eqb h.slot q) (used h.it) refl (gap-few (q + 1) hs)
  where
    go : (s u : Bool) → used h.it ≡ u → gap_from (q + 1) hs ≤ q + 1 + used_rows hs → cond (s && u) (gap_from (q + 1) hs) q ≤ q + used_rows (h ∷ hs)
    go true true e ih = omega (arith, ih, count-front (λ i. used (it_at (h ∷ hs) i)) (length hs), one)
      where
        one : ◌≡◌ {A = ℕ} (cond (used h.it) 1 0) 1
        one = rw e
    go true false e ih = omega arith
    go false u e ih = omega arith
