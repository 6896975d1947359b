-- A sender's room with one packet more: what a refusal leaves known of it stays so.
use Rattle.std.specs.Prelude.{◌≡◌, refl, Bool, true, false, List, ℕ, ◌*◌, ◌%◌, ◌≤◌, ◌<◌, eqb, length, get_or, take, drop, set}
use Rattle.std.proofs.Common.{sym, ◌∙◌, mod-lt, arith, length-drop, length-set, length-take-le, get_or-set_same, get_or-set_other, eqb-true}
use Rattle.std.proofs.lemmas.List.Edits.{length-paste}
use Rattle.std.proofs.lemmas.Bool.{eqb-false}
use Rattle.xor.specs.Xor.{padded, length-zip}
use Rattle.xor.specs.Padded.{length-padded}
use Rattle.rtp.specs.Rtp.{rtp_header_size}
use Rattle.calls.specs.Content.{Recovery}
use Rattle.schedule.specs.Schedule.{start, taking, slot, row_slot}
use Rattle.schedule.proofs.Limits.{slot_lt}
use Rattle.sender.specs.declared.Sender.{Sender}
use Rattle.sender.specs.Sums.{Room, slots, sum_at, alone, joined, join}
use Rattle.sender.specs.Call.{arrangement_of, absorbed}
use Rattle.sender.specs.Ready.{Ready, Payload, Slot, small_of, slot_of}

-- the column that takes a packet in has a slot before the row's
pub column-below : (s : Sender) (r : Room) → Ready s r → slot s.l (taking (arrangement_of s) s.l s.d s.at) < row_slot s.l
unfolding taking
column-below s r u =
    let w = small_of s u.set_up in
    slot_lt s.l s.d w.columns w.rows (taking (arrangement_of s) s.l s.d s.at) (mod-lt s.at w.columns)

-- and so it stands in the room
pub column-slot : (s : Sender) (r : Room) → Ready s r → slot s.l (taking (arrangement_of s) s.l s.d s.at) < slots s.l
column-slot s r u = omega (arith, column-below s r u)

-- what a sum has with one packet more: P bytes, and no longest length past P
pub joined_length : (p : ℕ) (first : Bool) (sum : Recovery) (g : List ℕ) → length sum.content.payload ≡ p → length (joined first sum (alone p g)).content.payload ≡ p
joined_length p true sum g e = length-padded p (drop rtp_header_size g)
joined_length p false sum g e = length-zip sum.content.payload (padded p (drop rtp_header_size g)) (e ∙ sym (length-padded p (drop rtp_header_size g))) ∙ e

pub joined-size : (p : ℕ) (first : Bool) (sum : Recovery) (g : List ℕ) → Payload p (length g) → sum.size ≤ p → (joined first sum (alone p g)).size ≤ p
joined-size p true sum g u h = rw length-drop (omega (arith, u.fits))
joined-size p false sum g u h = let e = length-drop rtp_header_size g in omega (arith, u.fits)

-- a room stays ready when a packet comes into one of its slots
pub ready-join : (s : Sender) (r : Room) (slot : ℕ) (first : Bool) (g : List ℕ) → Ready s r → Payload s.p (length g) → slot < slots s.l → Ready s (join s.p r slot first (alone s.p g))
ready-join s r slot first g u v h =
    let q = slot_of s r slot u.set_up u.roomy h in
    let own : length (take s.p (drop (slot * s.p) r.payloads)) ≡ s.p = length-take-le s.p (drop (slot * s.p) r.payloads) (simp length-drop (omega (arith, q.payload-ends))) in
    let x : Recovery = joined first (sum_at s.p r slot) (alone s.p g) in
    let long = joined_length s.p first (sum_at s.p r slot) g own in
    let kept = length-paste r.payloads (slot * s.p) x.content.payload s.p q.payload-ends (omega arith) in
    record {
      set_up = u.set_up;
      roomy = record {
        payloads-long = omega (arith, kept, u.roomy.payloads-long);
        timestamps-long = rw length-set u.roomy.timestamps-long;
        lengths-long = rw length-set u.roomy.lengths-long;
        longest-long = rw length-set u.roomy.longest-long;
      };
      at_low = u.at_low;
      within = λ i k. low i k (eqb i slot) refl q;
    }
  where
    low : (i : ℕ) → i < slots s.l → (b : Bool) → eqb i slot ≡ b → Slot slot s.p r → get_or (set r.longest slot (joined first (sum_at s.p r slot) (alone s.p g)).size) i 0 ≤ s.p
    low i k true e q =
        rw (eqb-true i slot e, get_or-set_same r.longest slot (joined first (sum_at s.p r slot) (alone s.p g)).size 0 q.longest-inside)
        (joined-size s.p first (sum_at s.p r slot) g v (u.within slot h))
    low i k false e q = rw (get_or-set_other r.longest slot i (joined first (sum_at s.p r slot) (alone s.p g)).size 0 (eqb-false i slot e)) (u.within i k)

-- and when it comes into its row and its column
pub ready-absorbed : (s : Sender) (r : Room) (g : List ℕ) → Ready s r → Payload s.p (length g) → Ready s (absorbed s g r)
unfolding absorbed
ready-absorbed s r g u v =
    let a = arrangement_of s in
    let c = taking a s.l s.d s.at in
    ready-join s (join s.p r (row_slot s.l) (eqb (s.at % s.l) 0) (alone s.p g)) (slot s.l c) (eqb (start a s.l s.d c) s.at) g
    (ready-join s r (row_slot s.l) (eqb (s.at % s.l) 0) g u v (omega arith)) v (column-slot s r u)
