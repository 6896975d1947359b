-- A packet's payload in the bytes of a slot, and a parity packet in an output; the ways through a sender's calls. Assumes nothing.
use Rattle.std.proofs.Common.{Some, None, ◌≡◌, refl, sym, ap, ap₂, ◌∙◌, Bool, true, false, cond, not, ◌||◌, true≢false, List, ◌++◌, ℕ, ◌+◌, ◌*◌, ◌-◌, ◌/◌, ◌%◌, ◌≤◌, ◌<◌, max, div-add-mod', arith, eqb, bit_xor, length, get_or, take, drop, set, length-drop, length-take-le, drop_of_length-le, append-nil, zero-add, [], eq-eqb, ne_eqb, ltb-true, ltb-false, le-leb, take_all, take-take}
use Rattle.std.proofs.Math.Option.{Option, none, some}
use Rattle.std.proofs.lemmas.Bool.{lt-leb, eqb-true, not-true, not-false}
use Rattle.std.proofs.Math.Seq.{paste, sets}
use Rattle.std.proofs.lemmas.Slice.{put_mid-paste}
use borrow.Rule.Slice.PartMut.{put_mid}
use Rattle.answer.specs.First.{first, Numbered, first_stops, first_goes}
use Rattle.xor.specs.Xor.{zip_xor, xor_at, padded, length-zip}
use Rattle.xor.specs.Padded.{length-padded, xor-padded}
use Rattle.xor.specs.Laid.{laid}
use Rattle.sequence.specs.Wrap.{ahead}
use Rattle.rtp.specs.Rtp.{rtp_header_size, parity_type, rtp_header, timestamp}
use Rattle.rtp.specs.Fec.{parity_header_size, column, row, fec_header}
use Rattle.rtp.specs.Faults.{no_row}
use Rattle.window.specs.Limits.{width}
use Rattle.calls.specs.Call.{over}
use Rattle.schedule.specs.declared.Leaving.{Leaving}
use Rattle.schedule.specs.declared.Joining.{Joining}
use Rattle.schedule.specs.Schedule.{Cycle, start, column_due, row_due, slot, row_slot}
use Rattle.schedule.proofs.Exact.{column_due-due}
use Rattle.schedule.proofs.Limits.{slot_lt}
use Rattle.schedule.specs.Numbers.{Small, leaving_by, leaving_at, joining_at}
use Rattle.sender.specs.declared.Sender.{Sender}
use Rattle.sender.specs.declared.Outer.{Outer}
use Rattle.sender.specs.Sums.{Room, lent, slots, alone, join}
use Rattle.sender.specs.Ready.{Ready, small_of}
use Rattle.sender.specs.Absorbed.{column-slot}
use Rattle.sender.specs.Call.{arrangement_of, next_number, no_sender, next_sender, open_tests, offer_tests, cleared, Opened, opened, packet_of, Filled, unused, packet, column_by, column_out, row_out, absorbed, Outcome, refused, offered}

-- a datagram's payload is all of it from the header on
pub rest-is : (h : ℕ) (g : List ℕ) → take (length g - h) (drop h g) ≡ drop h g
rest-is h g = take_all (length g - h) (drop h g) (omega (arith, length-drop h g))

module _ (d : List ℕ) (at : ℕ) (g : List ℕ) (h p k : ℕ) (ek : k ≡ p) (hd : at + p ≤ length d) (ys : List ℕ) where
  -- the bytes of a slot
  abbrev part : List ℕ
  part = take k (drop at d)

  part-size : length part ≡ p
  part-size = length-take-le k (drop at d) (simp length-drop (omega arith)) ∙ ek

  -- a payload laid over a slot
  pub lay-payload : ys ≡ padded (length (take k (drop at d))) (take (length g - h) (drop h g)) → put_mid at k d ys ≡ paste d at (padded p (drop h g)) p
  lay-payload e =
      let y : ys ≡ padded p (drop h g) = e ∙ ap₂ padded part-size (rest-is h g) in
      put_mid-paste at k d ys (padded p (drop h g)) p y (sym ek) (sym (length-padded p (drop h g)))

  -- a payload xored into a slot
  pub xor-payload : length (drop h g) ≤ p → ys ≡ xor_at (take k (drop at d)) 0 (take (length g - h) (drop h g)) (length (take (length g - h) (drop h g))) → put_mid at k d ys ≡ paste d at (zip_xor (take p (drop at d)) (padded p (drop h g))) p
  xor-payload hp e =
      let s : List ℕ = drop h g in
      let z : List ℕ = zip_xor part (padded p s) in
      let long : length z ≡ p = length-zip part (padded p s) (part-size ∙ sym (length-padded p s)) ∙ part-size in
      let one : ys ≡ xor_at part 0 s (length s) = e ∙ ap (λ (l : List ℕ). xor_at part 0 l (length l)) (rest-is h g) in
      let two : xor_at part 0 s (length s) ≡ xor_at part 0 (padded p (take (length s) s)) p = xor-padded part 0 s (length s) p hp (omega (arith, part-size)) (omega arith) in
      let three : take (length s) s ≡ s = take_all (length s) s (omega arith) in
      let end : drop p part ≡ [] = drop_of_length-le part (omega (arith, part-size)) in
      let all : xor_at part 0 (padded p s) p ≡ z = rw (zero-add p, end, append-nil) (take_all p z (omega (arith, long))) in
      put_mid-paste at k d ys z p (one ∙ two ∙ ap (λ (l : List ℕ). xor_at part 0 (padded p l) p) three ∙ all) (sym ek) (sym long)
      ∙ ap (λ (n : ℕ). paste d at (zip_xor (take n (drop at d)) (padded p s)) p) ek

-- a part that is pasted whole
pub pasted-part : (out y : List ℕ) (to n : ℕ) → paste out to (take n y) n ≡ paste out to y n
pasted-part out y to n = ap (λ (l : List ℕ). take to out ++ l ++ drop (to + n) out) (take-take n n y (omega arith))

-- ---- the refusals of a call, one list after another

module _ (ts us : List (ℕ × Bool)) (r : ℕ) (e : r ≡ first ts) where
  -- a test of the first list applied
  pub stops : (r ≡ 0 → ⊥) → r ≡ first (ts ++ us)
  stops h = e ∙ first_stops ts us (λ z. h (e ∙ z))

  -- none did, and the second list decides
  pub goes : Numbered ts → r ≡ 0 → (k : ℕ) → k ≡ first us → k ≡ first (ts ++ us)
  goes n z k h = h ∙ first_goes ts us n (sym e ∙ z)

-- ---- the room part by part

-- a packet in all four parts of a slot
pub joined-room : (p slot : ℕ) (first : Bool) (g payloads timestamps lengths longest ps : List ℕ) (stamp size t n m : ℕ) → stamp ≡ timestamp g → size ≡ length (drop rtp_header_size g)
    → ps ≡ paste payloads (slot * p) (cond first (padded p (drop rtp_header_size g)) (zip_xor (take p (drop (slot * p) payloads)) (padded p (drop rtp_header_size g)))) p
    → t ≡ cond first stamp (bit_xor (get_or timestamps slot 0) stamp) → n ≡ cond first size (bit_xor (get_or lengths slot 0) size) → m ≡ cond first size (max (get_or longest slot 0) size)
    → lent ps (set timestamps slot t) (set lengths slot n) (set longest slot m) ≡ join p (lent payloads timestamps lengths longest) slot first (alone p g)
joined-room p slot true g payloads timestamps lengths longest ps stamp size t n m es ez ep et en em = rw (ep, et, en, em, es, ez)
joined-room p slot false g payloads timestamps lengths longest ps stamp size t n m es ez ep et en em = rw (ep, et, en, em, es, ez)

-- the sum of a slot as a parity packet: its payload laid behind the headers
pub sent-packet : (s : Sender) (o : Outer) (stream back slot : ℕ) (payloads timestamps lengths longest out one two : List ℕ) (number snbase size : ℕ)
    → slot * s.p + s.p ≤ length payloads → get_or longest slot 0 ≤ s.p → parity_header_size + s.p ≤ length out
    → size ≡ get_or longest slot 0 → number ≡ next_number s → snbase ≡ ahead width back number
    → one ≡ paste out parity_header_size (drop (slot * s.p) payloads) size
    → two ≡ sets one 0 (rtp_header parity_type o.sequence o.timestamp o.ssrc ++ fec_header stream s.l s.d snbase (get_or lengths slot 0) (get_or timestamps slot 0))
    → ◌≡◌ {A = Filled} (record { bytes = parity_header_size + size; out = two }) (packet s o stream back slot (lent payloads timestamps lengths longest) out)
sent-packet s o stream back slot payloads timestamps lengths longest out one two number snbase size room low long ez en es e1 e2 =
    let y : List ℕ = drop (slot * s.p) payloads in
    let full : s.p ≤ length y = simp length-drop (omega arith) in
    let head : ℕ → List ℕ = λ b. rtp_header parity_type o.sequence o.timestamp o.ssrc ++ fec_header stream s.l s.d b (get_or lengths slot 0) (get_or timestamps slot 0) in
    let cut : take size y ≡ take (get_or longest slot 0) (take s.p y) = ap (λ (n : ℕ). take n y) ez ∙ sym (take-take (get_or longest slot 0) s.p y low) in
    let base : snbase ≡ ahead width back (next_number s) = es ∙ ap (ahead width back) en in
    let is : head snbase ++ take size y ≡ packet_of s o stream back slot (lent payloads timestamps lengths longest) = ap₂ (λ (b : ℕ) (l : List ℕ). head b ++ l) base cut in
    ap₂ (λ (n : ℕ) (l : List ℕ). record { bytes = parity_header_size + n; out = l }) ez
    (e2 ∙ ap (λ (l : List ℕ). sets l 0 (head snbase)) e1 ∙ laid (head snbase) y out parity_header_size size refl (omega arith) (omega arith) ∙ ap (λ (l : List ℕ). over l out) is)

-- ---- what goes out

-- the column that is due, by the numbers of the schedule
pub column-none : (s : Sender) (o : Outer) (r : Room) (out : List ℕ) → None ≡ leaving_at (arrangement_of s) s.l s.d s.at → unused out ≡ column_out s o r out
unfolding column_out leaving_at
column-none s o r out e = go (column_due (arrangement_of s) s.l s.d s.at) refl
  where
    go : (q : Option Cycle) → column_due (arrangement_of s) s.l s.d s.at ≡ q → unused out ≡ column_by s o r out q
    go none f = refl
    go (some v) f = let z = e ∙ ap (leaving_by (arrangement_of s) s.l s.d s.at) f in cc

pub column-some : (s : Sender) (o : Outer) (r : Room) (out : List ℕ) (c : Leaving) → Some c ≡ leaving_at (arrangement_of s) s.l s.d s.at
    → packet s o column c.back c.slot r out ≡ column_out s o r out
unfolding column_out leaving_at
column-some s o r out c e = go (column_due (arrangement_of s) s.l s.d s.at) refl
  where
    go : (q : Option Cycle) → column_due (arrangement_of s) s.l s.d s.at ≡ q → packet s o column c.back c.slot r out ≡ column_by s o r out q
    go none f = let z = e ∙ ap (leaving_by (arrangement_of s) s.l s.d s.at) f in cc
    go (some v) f =
        let z = e ∙ ap (leaving_by (arrangement_of s) s.l s.d s.at) f in
        let w : c ≡ record { slot = slot s.l v; back = s.at - start (arrangement_of s) s.l s.d v } = cc in
        ap (λ (k : Leaving). packet s o column k.back k.slot r out) w

-- a column that goes out stands in the room, and starts not long ago
pub leaving-fits : (s : Sender) (r : Room) → Ready s r → (c : Leaving) → Some c ≡ leaving_at (arrangement_of s) s.l s.d s.at → (c.slot < slots s.l) × (c.back < 300)
unfolding leaving_at
leaving-fits s r u c e = go (column_due (arrangement_of s) s.l s.d s.at) refl
  where
    w : Small s.l s.d
    w = small_of s u.set_up

    go : (q : Option Cycle) → column_due (arrangement_of s) s.l s.d s.at ≡ q → (c.slot < slots s.l) × (c.back < 300)
    go none f = let z = e ∙ ap (leaving_by (arrangement_of s) s.l s.d s.at) f in absurd (cc)
    go (some v) f =
        let z = e ∙ ap (leaving_by (arrangement_of s) s.l s.d s.at) f in
        let k : c ≡ record { slot = slot s.l v; back = s.at - start (arrangement_of s) s.l s.d v } = cc in
        let h = column_due-due s.l s.d w.columns w.rows (arrangement_of s) s.at v f in
        rw k (omega (arith, slot_lt s.l s.d w.columns w.rows v h.inside), omega (arith, u.at_low, w.matrix))

-- the column that takes a packet in stands in the room
pub joining_fits : (s : Sender) (r : Room) → Ready s r → (c : Joining) → c ≡ joining_at (arrangement_of s) s.l s.d s.at → c.slot < slots s.l
unfolding joining_at
joining_fits s r u c e = rw e (column-slot s r u)

-- the row that is due
module _ (s : Sender) (o : Outer) (r : Room) (out : List ℕ) where
  pub row-none : (few : Bool) → few ≡ no_row row s.l → (few || not (eqb (s.at % s.l + 1) s.l)) ≡ true → unused out ≡ row_out s o r out
  unfolding row_out row_due
  row-none true e h = rw (lt-leb 4 s.l (ltb-true s.l 4 (sym e)))
  row-none false e h = rw (le-leb 4 s.l (ltb-false s.l 4 (sym e)), not-true (eqb (s.at % s.l + 1) s.l) h)

  pub row-some : (few : Bool) → few ≡ no_row row s.l → (few || not (eqb (s.at % s.l + 1) s.l)) ≡ false → packet s o row (s.l - 1) (row_slot s.l) r out ≡ row_out s o r out
  unfolding row_out row_due
  row-some true e h = absurd (true≢false h)
  row-some false e h =
      let d = not-false (eqb (s.at % s.l + 1) s.l) h in
      let b : s.at - s.at / s.l * s.l ≡ s.l - 1 = omega (arith, div-add-mod' s.at s.l, eqb-true (s.at % s.l + 1) s.l d) in
      rw (le-leb 4 s.l (ltb-false s.l 4 (sym e)), d, b)

-- a packet in the sum of its row, and then in that of its column
pub absorbed-both : (s : Sender) (g : List ℕ) (r one two : Room) (c : Joining) → c ≡ joining_at (arrangement_of s) s.l s.d s.at
    → one ≡ join s.p r (row_slot s.l) (eqb (s.at % s.l) 0) (alone s.p g) → two ≡ join s.p one c.slot c.first (alone s.p g) → two ≡ absorbed s g r
unfolding absorbed joining_at
absorbed-both s g r one two c e e1 e2 = rw (e2, e1, e)

-- ---- the ways through a call

-- an opening is refused, or done
pub open_stops : (s : Sender) (r : Room) (k : ℕ) → k ≡ first (open_tests s r) → (k ≡ 0 → ⊥) → ◌≡◌ {A = Opened} (record { sent = record { number = k; row = 0; column = 0; sender = no_sender }; room = r }) (opened s r)
unfolding opened
open_stops s r k e h = rw (ne_eqb (first (open_tests s r)) 0 (λ z. h (e ∙ z)), e)

pub open_done : (s : Sender) (r r' : Room) → first (open_tests s r) ≡ 0 → r' ≡ cleared s r → ◌≡◌ {A = Opened} (record { sent = record { number = 0; row = 0; column = 0; sender = s }; room = r' }) (opened s r)
unfolding opened
open_done s r r' e q = rw (eq-eqb (first (open_tests s r)) 0 e, q)

-- an offer is refused, or taken
module _ (s : Sender) (g : List ℕ) (row column : Outer) (r : Room) (outRow outColumn : List ℕ) where
  pub offer-stops : (k : ℕ) → k ≡ first (offer_tests s g r (length outRow) (length outColumn)) → (k ≡ 0 → ⊥) → refused k s r outRow outColumn ≡ offered s g row column r outRow outColumn
  unfolding offered
  offer-stops k e h = rw (ne_eqb (first (offer_tests s g r (length outRow) (length outColumn))) 0 (λ z. h (e ∙ z)), e)

  pub offer-done : first (offer_tests s g r (length outRow) (length outColumn)) ≡ 0 → (r' : Room) (c w : Filled) (next : Sender) → c ≡ column_out s column r outColumn → r' ≡ absorbed s g r → w ≡ row_out s row r' outRow → next ≡ next_sender s
      → ◌≡◌ {A = Outcome} (record { sent = record { number = 0; row = w.bytes; column = c.bytes; sender = next }; room = r'; row = w.out; column = c.out }) (offered s g row column r outRow outColumn)
  unfolding offered
  offer-done e r' c w next ec er ew en = rw (eq-eqb (first (offer_tests s g r (length outRow) (length outColumn))) 0 e, ec, ew, er, en)
