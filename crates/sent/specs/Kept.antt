-- What a sender keeps, from packet to packet: in each slot the sum of the members so far of the group that it stands for, once over both
-- arrangements. A sender is seen by what it reads in its slots.
use Rattle.std.specs.Prelude.{◌≡◌, refl, Bool, true, false, cond, ℕ, suc, ◌+◌, ◌*◌, ◌-◌, ◌/◌, ◌%◌, ◌≤◌, ◌<◌, eqb}
use Rattle.std.proofs.Common.{sym, ◌∙◌, ap, ⊎_elim, eq-or-lt_of_le, le_of_suc-le-suc, mul-le-mul_left, arith, eqb-true}
use Rattle.std.proofs.Math.Option.{some}
use Rattle.std.proofs.lemmas.Bool.{eqb-false}
use Rattle.schedule.specs.declared.Arrangement.{Arrangement}
use Rattle.schedule.specs.Schedule.{Cycle, start, due, row_due, taking, slot, row_slot, onward}
use Rattle.schedule.specs.Exact.{Due, Member}
use Rattle.schedule.proofs.Exact.{remainder, member-before, taking-member, taking-is, row_due-last}
use Rattle.schedule.specs.Place.{Place}
use Rattle.schedule.proofs.Place.{onward-place, place-start, first-place, slot-place, line-place}
use Rattle.schedule.proofs.Limits.{slot_lt, taken-one}
use Rattle.sent.specs.Sums.{over, seen, Laws, seen_all, seen-miss, seen_none, seen_hit}

module _ {X : Type 0} (◌⊕◌ : X → X → X) (o : X) (G : X → Type 0) (laws : Laws ◌⊕◌ o G) (x : ℕ → X) (good : (j : ℕ) → G (x j)) (a : Arrangement) (L D : ℕ) where
  infixl 60 ◌⊕◌
  -- before packet i, with the counter at p
  pub record Kept (i p : ℕ) (slots : ℕ → X) : Type 0 where
    pub place : Place (L * D) p i
    pub row : (q : ℕ) → q * L < i → i ≤ q * L + L → slots (row_slot L) ≡ over ◌⊕◌ o (seen ◌⊕◌ o x i) (q * L) 1 L
    pub column : (c : Cycle) → c.column < L → start a L D c < i → i ≤ due a L D c → slots (slot L c) ≡ over ◌⊕◌ o (seen ◌⊕◌ o x i) (start a L D c) L D

  -- a packet comes into the sums of its column and of its row, with the counter at p
  pub record Joins (p : ℕ) (v : X) (slots slots' : ℕ → X) : Type 0 where
    pub own : slots' (slot L (taking a L D p)) ≡ cond (eqb (start a L D (taking a L D p)) p) v (slots (slot L (taking a L D p)) ⊕ v)
    pub row : slots' (row_slot L) ≡ cond (eqb (p % L) 0) v (slots (row_slot L) ⊕ v)
    pub others : (t : ℕ) → t < 2 * L → ¬ (t ≡ slot L (taking a L D p)) → slots' t ≡ slots t

  add-next : (s t n j i : ℕ) (b : Bool) (old : X) → 0 < t → j < n → s + j * t ≡ i → (b ≡ true → s ≡ i) → (b ≡ false → old ≡ over ◌⊕◌ o (seen ◌⊕◌ o x i) s t n)
      → cond b (x i) (old ⊕ x i) ≡ over ◌⊕◌ o (seen ◌⊕◌ o x (suc i)) s t n
  add-next s t n j i true old p k e f g = rw (seen_hit ◌⊕◌ o G laws x good i s t n j p k e, seen_none ◌⊕◌ o G laws x good i s t n (omega (arith, f refl))) (sym (laws.left (x i) (good i)))
  add-next s t n j i false old p k e f g = rw (seen_hit ◌⊕◌ o G laws x good i s t n j p k e, g refl)

  module _ (l : 0 < L) (d : 0 < D) where
    -- before the first packet, whatever the slots hold
    pub kept-start : (slots : ℕ → X) → Kept 0 0 slots
    kept-start slots = record {
      place = place-start (L * D) (let m = mul-le-mul_left L d in omega arith);
      row = λ q u v. absurd (omega arith);
      column = λ c k u v. absurd (omega arith);
    }

    module _ (i p : ℕ) (slots : ℕ → X) (h : Kept i p slots) where
      row_next : (q : ℕ) → q * L < suc i → suc i ≤ q * L + L → cond (eqb (i % L) 0) (x i) (slots (row_slot L) ⊕ x i) ≡ over ◌⊕◌ o (seen ◌⊕◌ o x (suc i)) (q * L) 1 L
      row_next q u v =
          let e = remainder L q (i - q * L) i (omega arith) (omega arith) in
          add-next (q * L) 1 L (i - q * L) i (eqb (i % L) 0) (slots (row_slot L)) (omega arith) (omega arith) (omega arith)
          (λ t. let f = eqb-true (i % L) 0 t in omega arith)
          (λ t. h.row q (begun (eqb-false (i % L) 0 t) e) (omega arith))
        where
          begun : ¬ (i % L ≡ 0) → i % L ≡ i - q * L → q * L < i
          begun f e = omega arith

      -- the cycle that takes the packet in
      own-next : (c : Cycle) → Member a L D i c → i ≤ due a L D c → cond (eqb (start a L D c) i) (x i) (slots (slot L c) ⊕ x i) ≡ over ◌⊕◌ o (seen ◌⊕◌ o x (suc i)) (start a L D c) L D
      own-next c m u =
          add-next (start a L D c) L D m.index i (eqb (start a L D c) i) (slots (slot L c)) l m.small m.is
          (eqb-true (start a L D c) i)
          (λ t. h.column c m.inside (begun (eqb-false (start a L D c) i t)) u)
        where
          begun : ¬ (start a L D c ≡ i) → start a L D c < i
          begun f = omega (arith, m.is)

      -- a cycle that does not
      other-next : (c : Cycle) → (Member a L D i c → ⊥) → c.column < L → start a L D c < suc i → suc i ≤ due a L D c → slots (slot L c) ≡ over ◌⊕◌ o (seen ◌⊕◌ o x (suc i)) (start a L D c) L D
      other-next c f k u v =
          h.column c k begun (omega arith) ∙ sym (seen-miss ◌⊕◌ o x i (start a L D c) L D (λ j b e. f (record { inside = k; index = j; small = b; is = e })))
        where
          begun : start a L D c < i
          begun = ⊎_elim (λ e. absurd (f (record { inside = k; index = 0; small = d; is = omega arith }))) (λ g. g) (eq-or-lt_of_le (le_of_suc-le-suc u))

      module _ (slots' : ℕ → X) (j : Joins p (x i) slots slots') where
        -- a packet keeps it
        pub kept_next : Kept (suc i) (onward (L * D) p) slots'
        kept_next = record {
          place = onward-place (L * D) p i (let m = mul-le-mul_left L d in omega arith) h.place;
          row = λ q u v. j.row ∙ rw (← line-place L D l d a p i h.place) (row_next q u v);
          column = λ c k u v. column c k u v (eqb (slot L c) (slot L (taking a L D i))) refl;
        }
          where
            same : slot L (taking a L D i) ≡ slot L (taking a L D p)
            same = slot-place L D l d a p i h.place

            column : (c : Cycle) → c.column < L → start a L D c < suc i → suc i ≤ due a L D c → (b : Bool) → eqb (slot L c) (slot L (taking a L D i)) ≡ b
                → slots' (slot L c) ≡ over ◌⊕◌ o (seen ◌⊕◌ o x (suc i)) (start a L D c) L D
            column c k u v true t =
                let e = taken-one L D l d a i c (record { inside = k; begun = omega arith; kept = v }) (eqb-true _ _ t) in
                let m = taking-member L D l d a i (rw (← e) (omega arith)) in
                let w = own-next (taking a L D i) m (rw (← e) (omega arith)) in
                rw e (ap slots' same ∙ j.own ∙ rw (← first-place L D l d a p i h.place, ← same) w)
            column c k u v false t =
                j.others (slot L c) (slot_lt L D l d c k) (λ q. eqb-false _ _ t (q ∙ sym same))
                ∙ other-next c (λ m. eqb-false _ _ t (ap (slot L) (sym (taking-is L D l d a i c m)))) k u v

        -- a row that goes out with the packet is whole
        pub row-whole : (b : ℕ) → row_due L i ≡ some b → slots' (row_slot L) ≡ over ◌⊕◌ o x b 1 L
        row-whole b e =
            let f = row_due-last L D l d a i b e in
            kept_next.row (i / L) (omega arith) (omega arith)
            ∙ rw f.0 (seen_all ◌⊕◌ o x (suc i) b 1 L (λ k u. omega arith))

      -- a column that goes out with the packet is whole, before the packet comes in
      pub column-whole : (c : Cycle) → Due a L D i c → slots (slot L c) ≡ over ◌⊕◌ o x (start a L D c) L D
      column-whole c u =
          h.column c u.inside (omega (arith, member-before L D l d a c 0 d, u.at)) (omega (arith, u.at))
          ∙ seen_all ◌⊕◌ o x i (start a L D c) L D (λ j k. omega (arith, member-before L D l d a c j k, u.at))
