-- A sender's room by what its slots hold: an offer joins the packet to the sums of its column and of its row.
use Rattle.std.specs.Prelude.{◌≡◌, List, ℕ, ◌*◌, ◌%◌, eqb, length, drop}
use Rattle.std.proofs.Common.{sym, ◌∙◌, ap, arith, length-drop, length-take-le, get_or-set_same, get_or-set_other}
use Rattle.xor.specs.Parts.{part_front, part_rest}
use Rattle.calls.specs.Content.{Recovery}
use Rattle.schedule.specs.Schedule.{start, taking, slot, row_slot}
use Rattle.sender.specs.declared.Sender.{Sender}
use Rattle.sender.specs.Sums.{Room, sum_at, put_sum, alone, together, joined, join}
use Rattle.sender.specs.Call.{arrangement_of, absorbed}
use Rattle.sender.specs.Ready.{Ready, Payload, Slot, slot_of}
use Rattle.sender.specs.Absorbed.{column-below, column-slot, joined_length, ready-join}
use Rattle.sent.specs.Kept.{Joins}
use Rattle.sent.specs.Room.{empty, Sized, together-laws}

-- a slot after a sum was written to one
module _ (p : ℕ) (r : Room) (s : ℕ) (v : Recovery) (q : Slot s p r) (h : Sized p v) where
  pub sum_same : sum_at p (put_sum p r s v) s ≡ v
  sum_same =
      rw (
        part_front r.payloads s p v.content.payload q.payload-ends h,
        get_or-set_same r.timestamps s v.content.timestamp 0 q.timestamp-inside,
        get_or-set_same r.lengths s v.content.length 0 q.length-inside,
        get_or-set_same r.longest s v.size 0 q.longest-inside,
      )

  pub sum-other : (t : ℕ) → ¬ (t ≡ s) → sum_at p (put_sum p r s v) t ≡ sum_at p r t
  sum-other t n =
      rw (
        part_rest r.payloads s p v.content.payload q.payload-ends h t n,
        get_or-set_other r.timestamps s t v.content.timestamp 0 n,
        get_or-set_other r.lengths s t v.content.length 0 n,
        get_or-set_other r.longest s t v.size 0 n,
      )

-- the sum of a slot of a room has p bytes
pub sum-sized : (p : ℕ) (r : Room) (s : ℕ) → Slot s p r → Sized p (sum_at p r s)
sum-sized p r s q = length-take-le p (drop (s * p) r.payloads) (simp length-drop (omega (arith, q.payload-ends)))

-- an offer that is taken, as a step of the theory
pub absorbs : (s : Sender) (r : Room) (g : List ℕ) → Ready s r → Payload s.p (length g) → (x : ℕ → Recovery) (good : (j : ℕ) → Sized s.p (x j))
    → Joins together (empty s.p) (Sized s.p) (together-laws s.p) x good (arrangement_of s) s.l s.d s.at (alone s.p g) (sum_at s.p r) (sum_at s.p (absorbed s g r))
unfolding absorbed
absorbs s r g u v y good =
    let c = slot s.l (taking (arrangement_of s) s.l s.d s.at) in
    let f = eqb (start (arrangement_of s) s.l s.d (taking (arrangement_of s) s.l s.d s.at)) s.at in
    let k = eqb (s.at % s.l) 0 in
    let x = alone s.p g in
    let one = join s.p r (row_slot s.l) k x in
    let qr = slot_of s r (row_slot s.l) u.set_up u.roomy (omega arith) in
    let w = ready-join s r (row_slot s.l) k g u v (omega arith) in
    let qc = slot_of s one c w.set_up w.roomy (column-slot s r u) in
    let hr = joined_length s.p k (sum_at s.p r (row_slot s.l)) g (sum-sized s.p r (row_slot s.l) qr) in
    let hc = joined_length s.p f (sum_at s.p one c) g (sum-sized s.p one c qc) in
    record {
      own =
          sum_same s.p one c _ qc hc
          ∙ ap (λ (z : Recovery). joined f z x) (sum-other s.p r (row_slot s.l) _ qr hr c (below s r u));
      row = sum-other s.p one c _ qc hc (row_slot s.l) (λ e. below s r u (sym e)) ∙ sum_same s.p r (row_slot s.l) _ qr hr;
      others = λ t h n. sum-other s.p one c _ qc hc t n ∙ sum-other s.p r (row_slot s.l) _ qr hr t (λ e. absurd (omega arith));
    }
  where
    below : (s : Sender) (r : Room) → Ready s r → slot s.l (taking (arrangement_of s) s.l s.d s.at) ≡ row_slot s.l → ⊥
    below s r u e = omega (arith, column-below s r u)
