-- Demand 2 (Demand2.antt), proved: an accepted offer is a run of the theory, whatever it carries, and what such a run leaves is known.
use Rattle.std.specs.Prelude.{◌≡◌, refl, ◌⊎◌, Bool, true, false, cond, ℕ, ◌+◌, ◌^◌, ◌<◌, ◌≤◌, drop, eqb}
use Rattle.std.proofs.Common.{sym, ap, ◌∙◌, subst, inl, inr, arith, eqb-true}
use mathlib.Core.List.Memᴰ
use mathlib.Core.List.{List, [], ◌∷◌, ◌++◌, Memᴰ}
use Rattle.std.proofs.Math.Decide.{ℕ_discrete}
use Rattle.answer.specs.declared.Answer.TheVariants.{Done, Refused}
use Rattle.answer.specs.First.{first}
use Rattle.sequence.specs.Wrap.{number_at}
use Rattle.sequence.proofs.Wrap.{number_at-ahead}
use Rattle.rtp.specs.Rtp.{rtp_header_size, sequence_number}
use Rattle.rtp.specs.Fec.{parity_header_size, column, row, snbase}
use Rattle.window.specs.declared.Window.{Window}
use Rattle.window.specs.Limits.{width}
use Rattle.window.specs.Store.{Store, length_at}
use Rattle.window.specs.Group.{position, group, is_missing}
use Rattle.calls.specs.Content.{Content, xor_contents, content_at, Recovery, recovery_over, fits}
use Rattle.calls.specs.Datagram.{media_packet, parity_packet}
use Rattle.calls.specs.Accept.{content_of, recovery_of}
use Rattle.calls.specs.Call.{Outcome, Written, media_offer_tests, parity_offer_tests, offered_media, offered_parity, over, read_tests, read_out, write_tests, parity_of, wrote_parity}
use Rattle.calls.specs.Standing.{Standing}
use Rattle.calls.proofs.Passed.{media-passed, parity-passed, read-passed, write_passed}
use Rattle.peel.specs.Group as Peel
use Rattle.peel.specs.Peel as Theory
use Rattle.peel.proofs.Peel as TheoryLaws
use Rattle.guarantee.specs.Packets.{Whole, Packet, xored, zeros, packet_of, content_from}
use Rattle.guarantee.proofs.Packets.{length-first, content_from_lem, packet-content, packet-xor, packet-total, whole-xor, whole_xors}
use Rattle.guarantee.proofs.Lengths.{length-padded}
use Rattle.guarantee.specs.View.{code, packet_at, view}
use Rattle.guarantee.proofs.View.{slot-present, slot_is, content-whole, recovery_whole, mark-one}
use Rattle.guarantee.specs.Order.{standing}
use Rattle.guarantee.specs.Accepted.{Settled}
use Rattle.guarantee.specs.Offers.{media_seen, parity_seen}
use Rattle.guarantee.proofs.Offers.{media-kept, parity-kept, media-accepted, parity-accepted}
use Rattle.guarantee.specs.Demand3.{Port, mediaPort, columnPort, rowPort, Offer, call_of, offered, mark_at}
use Rattle.guarantee.specs.Demand2.{Usable, in_hand, column-offered, row-offered, rebuilt_by, Due, stood, arrived, rebuilt, ClaimDue, ClaimStays, ClaimRead, ClaimWritten}
use Rattle.guarantee.specs.Sent.{seen_on, seen}
use Rattle.guarantee.proofs.Sent.{not-check}
use Rattle.guarantee.proofs.Kept.{recovery_agrees}
use Rattle.guarantee.specs.Made.{Moved}

-- what settling leaves is such a move
moved : {p : Theory.Offer (ℕ × ℕ) Recovery Packet} {w : Window} {s : Store} {more room need : ℕ} {x : Outcome} → Standing w s room need → Settled w w.present s p more x → Moved p w s x
moved {w = w} {s} z t = record { before = (standing w w.present w.in_use s z).good; runs = t.runs; present = t.present; used = t.used; after = t.order.good }

module _ (g : List ℕ) (w : Window) (s : Store) (based : w.base < 2 ^ 16) where
  -- a media offer moves so, or it is refused and leaves the store as it was
  media-moves : ((offered_media w g s).store ≡ s) ⊎ Moved (media_seen w g) w s (offered_media w g s)
  media-moves = go (ℕ_discrete (first (media_offer_tests w g s)) 0)
    where
      go : Dec (first (media_offer_tests w g s) ≡ 0) → ((offered_media w g s).store ≡ s) ⊎ Moved (media_seen w g) w s (offered_media w g s)
      go (no n) = inl (ap (λ x. x.store) (media-kept w g s n))
      go (yes e) = let q = media-passed w g s e in inr (moved q.standing (media-accepted w based w.present w.in_use s g e))

  -- so does a parity offer
  parity-moves : (stream : ℕ) → stream ≤ 1 → ((offered_parity stream w g s).store ≡ s) ⊎ Moved (parity_seen w stream g) w s (offered_parity stream w g s)
  parity-moves stream hs = go (ℕ_discrete (first (parity_offer_tests w stream g s)) 0)
    where
      go : Dec (first (parity_offer_tests w stream g s) ≡ 0) → ((offered_parity stream w g s).store ≡ s) ⊎ Moved (parity_seen w stream g) w s (offered_parity stream w g s)
      go (no n) = inl (ap (λ x. x.store) (parity-kept stream w g s n))
      go (yes e) = let q = parity-passed w stream g s e in inr (moved q.standing (parity-accepted w based w.present w.in_use s g stream hs e))

  -- so does a call on any port
  pub moves : (p : Port) → ((call_of p w g s).store ≡ s) ⊎ Moved (seen_on w p g) w s (call_of p w g s)
  moves mediaPort = media-moves
  moves columnPort = parity-moves column (omega arith)
  moves rowPort = parity-moves row (omega arith)

-- ---- what is known is due
module _ (o : Offer) (w : Window) (s : Store) (M : Moved (seen w o) w s (offered o w s)) where
  -- what the call has received
  abbrev R : Theory.Set (Theory.Offer (ℕ × ℕ) Recovery Packet)
  R = Theory.Plus (Theory.Has (view w s)) (seen w o ∷ [])

  -- a packet is that of a content that is due
  abbrev DueAt : ℕ → Packet → Type 0
  DueAt i x = Due w o s i (content_from w.p x) × (packet_of (content_from w.p x) ≡ x)

  -- a content of P bytes
  due-content : {i : ℕ} (c : Content) → Whole w.p c → Due w o s i c → DueAt i (packet_of c)
  due-content c size d = let e = content_from_lem w.p c size in (rw e d, ap packet_of e)

  -- the media packet offered
  media-due : (p : Port) → o.port ≡ p → (i : ℕ) (x : Packet) → Theory.media i x ≡ seen_on w p o.datagram → DueAt i x
  media-due mediaPort e i x q =
      let a : i ≡ position w (sequence_number o.datagram) = cc in
      let b : x ≡ packet_of (content_of w.p o.datagram) = cc in
      rw (a, b) (due-content (content_of w.p o.datagram) (length-padded w.p (drop rtp_header_size o.datagram)) (arrived e))
  media-due columnPort e i x q = absurd (not-check q)
  media-due rowPort e i x q = absurd (not-check q)

  -- the parity packet offered
  parity-usable : (p : Port) → o.port ≡ p → (k : ℕ × ℕ) (v : Recovery) → Theory.check k v ≡ seen_on w p o.datagram → Usable w o s k.0 k.1 v × Whole w.p v.content
  parity-usable mediaPort e k v q = absurd (not-check (sym q))
  parity-usable columnPort e k v q =
      let a : k ≡ (column, snbase o.datagram) = cc in
      let b : v ≡ recovery_of w.p o.datagram = cc in
      rw (a, b) (column-offered e, length-padded w.p (drop parity_header_size o.datagram))
  parity-usable rowPort e k v q =
      let a : k ≡ (row, snbase o.datagram) = cc in
      let b : v ≡ recovery_of w.p o.datagram = cc in
      rw (a, b) (row-offered e, length-padded w.p (drop parity_header_size o.datagram))

  -- a parity packet that was received may be rebuilt by
  usable : (k : ℕ × ℕ) (v : Recovery) → R (Theory.check k v) → Usable w o s k.0 k.1 v × Whole w.p v.content
  usable k v (inl h) = rw (← h.names, ← h.carries) (in_hand h.at h.below h.used, recovery_whole w s h.at)
  usable k v (inr m) = parity-usable o.port refl k v (Memᴰ.eq_of_singleton m)

  -- the exclusive-or of a recovery and of the others is that of their contents
  sum-content : (v : Recovery) → Whole w.p v.content → (f : ℕ → Packet) (g : List ℕ) → ((j : ℕ) → Memᴰ j g → packet_of (content_from w.p (f j)) ≡ f j)
      → Whole w.p (rebuilt_by w v (λ j. content_from w.p (f j)) g)
      × (packet_of (rebuilt_by w v (λ j. content_from w.p (f j)) g) ≡ xored (packet_of v.content) (Peel.total xored zeros f g))
  sum-content v size f g e = (
    whole-xor v.content sum size long,
    packet-xor v.content sum size long ∙ ap (xored (packet_of v.content)) (packet-total w.p others whole g ∙ Peel.total_ext xored zeros _ f g e),
  )
    where
      others : ℕ → Content
      others j = content_from w.p (f j)

      sum : Content
      sum = xor_contents w.p others g

      whole : (j : ℕ) → Whole w.p (others j)
      whole j = length-first w.p _

      long : Whole w.p sum
      long = whole_xors w.p others whole g

  -- what the theory knows is due
  known-due : {i : ℕ} {x : Packet} → Theory.Known (code w) R i x → DueAt i x
  known-due {i} {x} (Theory.received (inl e)) =
      let z = slot_is w s i x e in
      rw z.2 (due-content (content_at w s i) (content-whole w s i) (stood i z.0 (mark-one M.before i z.0 z.1)))
  known-due {i} {x} (Theory.received (inr m)) = media-due o.port refl i x (Memᴰ.eq_of_singleton m)
  known-due {i} {x} (Theory.rebuilt k v f a b m e r q ok) =
      let u = usable k v m in
      let c = rebuilt_by w v (λ j. content_from w.p (f j)) (a ++ b) in
      let z = sum-content v u.1 f (a ++ b) (λ j n. (known-due (r j n)).1) in
      let same : packet_of c ≡ x = z.1 ∙ sym q in
      let good : fits w v c ≡ true = ap (fits w v) (sym (content_from_lem w.p c z.0)) ∙ ap (λ y. fits w v (content_from w.p y)) same ∙ ok in
      subst (DueAt i) same (due-content c z.0 (rebuilt k.0 k.1 v (λ j. content_from w.p (f j)) i a b u.0 e (λ j n. (known-due (r j n)).0) good))

-- ---- the theorems
-- every packet that is present after an offer is due
pub made_due : ClaimDue
made_due o w s based i h e = go (moves o.datagram w s based o.port)
  where
    t : Store
    t = (offered o w s).store

    go : (t ≡ s) ⊎ Moved (seen w o) w s (offered o w s) → Due w o s i (content_at w t i)
    go (inl q) = rw q (stood i h (ap (λ z. mark_at z i) (sym q) ∙ e))
    go (inr M) =
        let n : is_missing t.marks i ≡ false = rw e in
        let v = TheoryLaws.sound-runs (code w) (TheoryLaws.sound-has (code w) (view w s)) M.runs in
        subst (Due w o s i) (content_from_lem w.p (content_at w t i) (content-whole w t i))
        (known-due o w s M (v.known i (packet_at w t i) (slot-present w t i h n))).0

-- a packet that was present stays as it was
pub made_stays : ClaimStays
made_stays o w s based i h e = go (moves o.datagram w s based o.port)
  where
    t : Store
    t = (offered o w s).store

    go : (t ≡ s) ⊎ Moved (seen w o) w s (offered o w s) → (mark_at t i ≡ 1) × (content_at w t i ≡ content_at w s i)
    go (inl q) = rw q (e, refl)
    go (inr M) =
        let n : is_missing s.marks i ≡ false = rw e in
        let z = slot_is w t i (packet_at w s i) (TheoryLaws.runs-keep (code w) M.runs i (packet_at w s i) (slot-present w s i h n)) in (
          mark-one M.after i h z.1,
          packet-content (content_at w t i) (content_at w s i)
              (content-whole w t i) (content-whole w s i) (sym z.2),
        )

-- ---- reading and writing
-- a reading or writing that answers done met no refusal
written-first : (n : ℕ) (x y : Written) (k c : ℕ) → y.answer ≡ Refused k → (cond (eqb n 0) x y).answer ≡ Done c 0 → n ≡ 0
written-first n x y k c r e = go (eqb n 0) refl e
  where
    go : (b : Bool) → eqb n 0 ≡ b → (cond b x y).answer ≡ Done c 0 → n ≡ 0
    go true q h = eqb-true n 0 q
    go false q h = absurd (let z : ◌≡◌ {A = ℕ} 0 1 = cc in omega arith)

-- reading out of an unaltered store
pub read-unaltered : ClaimRead
unfolding read_out
read-unaltered w t s number c out based ssrc-fits number_fits H e =
    let z : first (read_tests w number s out) ≡ 0 = written-first (first (read_tests w number s out))
    (record { answer = Done (rtp_header_size + length_at s (position w number)) 0; window = w; out = over (media_packet number w.ssrc (content_at w s (position w number))) out })
    (record { answer = Refused (first (read_tests w number s out)); window = w; out = out }) (first (read_tests w number s out)) c refl e in
    let q = read-passed w number s out z in
    let m = mark-one (standing w w.present w.in_use s q.standing).good (position w number) q.in_window q.present in
    rw z (record {
      datagram = media_packet number w.ssrc (content_at w s (position w number));
      is = record {
        place = position w number;
        ssrc = w.ssrc;
        in_window = q.in_window;
        ssrc-fits = ssrc-fits;
        is = ap (λ n. media_packet n w.ssrc (content_at w s (position w number))) (sym (number_at-ahead width w.base (omega (arith, based)) number number_fits))
            ∙ ap (media_packet (number_at width w.base (position w number)) w.ssrc) (H.media (position w number) q.in_window m);
      };
      written = refl;
    })

-- writing parity over an unaltered store
pub written-unaltered : ClaimWritten
unfolding wrote_parity
written-unaltered w t s stream snbase c o out base-fits sequence-fits timestamp-fits ssrc-fits H e =
    let z : first (write_tests w stream snbase s out) ≡ 0 = written-first (first (write_tests w stream snbase s out))
    (record { answer = Done (parity_header_size + (recovery_over w s (group w stream snbase)).size) 0; window = w; out = over (parity_of w o stream snbase s) out })
    (record { answer = Refused (first (write_tests w stream snbase s out)); window = w; out = out }) (first (write_tests w stream snbase s out)) c refl e in
    let q = write_passed w stream snbase s out z in
    let G = (standing w w.present w.in_use s q.standing).good in
    rw z (record {
      datagram = parity_of w o stream snbase s;
      is = record {
        snbase = snbase;
        outer = o;
        snbase-fits = base-fits;
        sequence-fits = sequence-fits;
        timestamp-fits = timestamp-fits;
        ssrc-fits = ssrc-fits;
        permitted = q.permitted;
        in_window = q.in_window;
        is = ap (parity_packet o stream w.l w.d snbase) (recovery_agrees w t s (λ i h n. H.media i h (mark-one G i h n)) stream snbase q.in_window q.whole);
      };
      written = refl;
    })
