-- An unaltered offer as the theory of rebuilding sees it: it carries what was sent, has no fault, and is known by its name.
use Rattle.std.specs.Prelude.{◌≡◌, refl, true, ◌&&◌, ℕ, ◌<◌, ◌≤◌, length}
use Rattle.std.proofs.Common.{sym, ap, ap₂, ◌∙◌, subst, mod-lt, arith, pow_pos}
use mathlib.Core.List.{List, Memᴰ}
use Rattle.std.proofs.lemmas.List.{length-map}
use Rattle.answer.specs.First.{None}
use Rattle.sequence.specs.Lists.{up_to}
use Rattle.sequence.proofs.Lists.{length-up_to}
use Rattle.sequence.specs.Wrap.{number_at, member, members}
use Rattle.sequence.proofs.Wrap.{ahead-number_at}
use Rattle.rtp.specs.Rtp.{sequence_number}
use Rattle.rtp.specs.Fec.{column, row, offset_of, na_of, snbase}
use Rattle.rtp.specs.Faults.{media_tests, parity_tests}
use Rattle.rtp.specs.Length.{good_length}
use Rattle.window.specs.declared.Window.{Window}
use Rattle.window.specs.Limits.{width}
use Rattle.window.specs.Plain.{shape_of}
use Rattle.window.specs.Group.{position, group, inside}
use Rattle.calls.specs.Datagram.{parity_packet}
use Rattle.calls.specs.Content.{Recovery, fits}
use Rattle.calls.specs.Accept.{content_of, recovery_of}
use Rattle.peel.specs.Group as Peel
use Rattle.peel.specs.Peel as Theory
use Rattle.guarantee.specs.Packets.{Whole, Packet, xored, zeros, packet_of}
use Rattle.guarantee.proofs.Packets.{content_from_lem, packet-total, whole_xors}
use Rattle.guarantee.specs.Lengths.{Clean}
use Rattle.guarantee.proofs.Lengths.{length-padded, padded_clean, zeros_clean, padded-past, past_more, past_xors, units_le, units_upto, longest-le, longest-good}
use Rattle.guarantee.specs.View.{Limits, group_of, code}
use Rattle.guarantee.proofs.View.{group-lt}
use Rattle.guarantee.proofs.Wire.{media-number, media-content, media-faultless, parity-snbase, parity-recovery, parity-faultless, xors_lt}
use Rattle.guarantee.specs.Demand3.{Port, mediaPort, columnPort, rowPort, Stretch, Fills, content_sent, recovery_sent, UnalteredMedia, UnalteredParity, UnalteredOn, media_name, parity_name, name_on}
use Rattle.guarantee.specs.Sent.{sent, seen_on}

-- a media packet is not a check
pub not-check : {K C X : Type 0} {i : ℕ} {x : X} {k : K} {v : C} → ◌≡◌ {A = Theory.Offer K C X} (Theory.media i x) (Theory.check k v) → ⊥
not-check e = let z : ◌≡◌ {A = ℕ} 0 1 = cc in omega arith

-- the position of a position's number
pub position-number : {w : Window} → Limits w → (i : ℕ) → i < w.n → position w (number_at width w.base i) ≡ i
position-number {w} L i h = ahead-number_at width w.base (omega (arith, L.based)) i (omega (arith, L.set_up.n-high))

-- ---- what is sent
-- a content has P bytes
pub sent-whole : (w : Window) (t : Stretch) (i : ℕ) → Whole w.p (content_sent w t i)
sent-whole w t i = length-padded w.p (t i).payload

-- and so has the recovery of a group over the stretch
pub recovery_whole : (w : Window) (t : Stretch) (g : List ℕ) → Whole w.p (recovery_sent w t g).content
recovery_whole w t = whole_xors w.p (content_sent w t) (sent-whole w t)

-- which is the theory's sum
pub recovery_sum : (w : Window) (t : Stretch) (g : List ℕ) → packet_of (recovery_sent w t g).content ≡ Peel.total xored zeros (sent w t) g
recovery_sum w t = packet-total w.p (content_sent w t) (sent-whole w t)

-- a group has members
pub group-some : {w : Window} → Limits w → (stream snbase : ℕ) → 0 < length (group w stream snbase)
group-some {w} L stream snbase =
    let na = na_of stream w.l w.d in
    let a = length-map (members width snbase (offset_of stream w.l) na) (position w) in
    let b = length-map (up_to na) (member width snbase (offset_of stream w.l)) in
    omega (arith, a, b, length-up_to na, (shape_of w.l w.d stream L.set_up.profile).na-low)

module _ {w : Window} {t : Stretch} (F : Fills w t) where
  -- no payload is longer than P
  sent-le : (i : ℕ) → i < w.n → length (t i).payload ≤ w.p
  sent-le i h = units_le w.p w.p (length (t i).payload) (F.size i h)

  -- past it there are zeros
  sent-clean : (i : ℕ) → i < w.n → Clean w.p (length (t i).payload) (content_sent w t i).payload
  sent-clean i h = padded_clean w.p (t i).payload (sent-le i h)

  module _ (k : ℕ × ℕ) (within : inside w k.0 k.1 ≡ true) where
    -- the lengths of a group's payloads
    abbrev long : ℕ → ℕ
    long j = length (t j).payload

    -- its members lie in the window
    below : (j : ℕ) → Memᴰ j (group_of w k) → j < w.n
    below = group-lt w k.0 k.1 within

    -- the length of its parity packet's payload is good
    recovery-good : Limits w → good_length w.p (recovery_sent w t (group_of w k)).size ≡ true
    recovery-good L = longest-good w.p long (group_of w k) (λ j m. F.size j (below j m)) (group-some L k.0 k.1)

    -- past it there are zeros
    recovery-clean : Clean w.p (recovery_sent w t (group_of w k)).size (recovery_sent w t (group_of w k)).content.payload
    recovery-clean =
        let v = recovery_sent w t (group_of w k) in
        zeros_clean w.p v.size v.content.payload (recovery_whole w t (group_of w k)) (past_xors w.p v.size (content_sent w t) (group_of w k)
        (λ j m. past_more (long j) v.size (content_sent w t j).payload (longest-le long (group_of w k) j m) (padded-past w.p (t j).payload w.p)))

    -- what was sent at a member fits it
    recovery-fits : (i : ℕ) → Memᴰ i (group_of w k) → fits w (recovery_sent w t (group_of w k)) (content_sent w t i) ≡ true
    recovery-fits i m =
        ap₂ ◌&&◌ (units_upto w.p w.p (recovery_sent w t (group_of w k)).size (long i) (F.size i (below i m)) (longest-le long (group_of w k) i m)) (padded-past w.p (t i).payload w.p)

    -- so a check that carries its recovery is unaltered
    pub check-sent : (v : Recovery) → v ≡ recovery_sent w t (group_of w k) → Theory.Unaltered (code w) (sent w t) (Theory.check k v)
    check-sent v e = rw e (recovery_sum w t (group_of w k), λ i m. ap (fits w (recovery_sent w t (group_of w k))) (content_from_lem w.p (content_sent w t i) (sent-whole w t i)) ∙ recovery-fits i m)

module _ {w : Window} (L : Limits w) {t : Stretch} (F : Fills w t) where
  -- what is read in an unaltered media packet
  pub record MediaRead (g : List ℕ) : Type 0 where
    pub place : ℕ
    pub below : place < w.n
    pub number : sequence_number g ≡ number_at width w.base place
    pub faultless : None (media_tests w.p g)
    pub carries : content_of w.p g ≡ content_sent w t place

  -- it is what was sent
  pub media-read : (g : List ℕ) → UnalteredMedia w t g → MediaRead g
  media-read g u =
      let number = number_at width w.base u.place in
      let c = content_sent w t u.place in
      let good = F.size u.place u.in_window in
      let clean = sent-clean F u.place u.in_window in
      subst MediaRead (sym u.is) (record {
        place = u.place;
        below = u.in_window;
        number = media-number number u.ssrc c (mod-lt _ (pow_pos width));
        faultless = media-faultless number u.ssrc c w.p good clean;
        carries = media-content number u.ssrc c w.p good clean (F.timestamp-fits u.place u.in_window);
      })

  -- what is read in an unaltered parity packet
  pub record ParityRead (stream : ℕ) (g : List ℕ) : Type 0 where
    pub faultless : None (parity_tests stream w.l w.d w.p g)
    pub within : inside w stream (snbase g) ≡ true
    pub carries : recovery_of w.p g ≡ recovery_sent w t (group w stream (snbase g))

  -- it is what was sent, over its group
  pub parity-read : (stream : ℕ) → stream ≤ 1 → (g : List ℕ) → UnalteredParity w t stream g → ParityRead stream g
  parity-read stream hs g u = subst (ParityRead stream) (sym u.is) (record {
    faultless = parity-faultless u.outer stream w.l w.d u.snbase v w.p good clean hs u.permitted;
    within = rw reads u.in_window;
    carries = rw reads (parity-recovery u.outer stream w.l w.d u.snbase v w.p good clean
        (xors_lt 32 (λ i. (t i).timestamp) members (λ j m. F.timestamp-fits j (below j m)))
        (xors_lt 16 (λ i. length (t i).payload) members (λ j m. omega (arith, sent-le F j (below j m), L.set_up.p-high))));
  })
    where
      k : ℕ × ℕ
      k = (stream, u.snbase)

      members : List ℕ
      members = group w stream u.snbase

      v : Recovery
      v = recovery_sent w t members

      below : (j : ℕ) → Memᴰ j members → j < w.n
      below = group-lt w stream u.snbase u.in_window

      good : good_length w.p v.size ≡ true
      good = recovery-good F k u.in_window L

      clean : Clean w.p v.size v.content.payload
      clean = recovery-clean F k u.in_window

      reads : snbase (parity_packet u.outer stream w.l w.d u.snbase v) ≡ u.snbase
      reads = parity-snbase u.outer stream w.l w.d u.snbase v u.snbase-fits

  -- ---- every offer carries what was sent, and is known by its name

  -- an unaltered parity packet carries the recovery of its group
  pub check-carries : (p : Port) (g : List ℕ) → UnalteredOn w t p g → (k : ℕ × ℕ) (v : Recovery) → seen_on w p g ≡ Theory.check k v → v ≡ recovery_sent w t (group_of w k)
  check-carries mediaPort g u k v e = absurd (not-check e)
  check-carries columnPort g u k v e =
      let a : (column, snbase g) ≡ k = cc in
      let b : recovery_of w.p g ≡ v = cc in
      rw (← a, ← b) (parity-read column (omega arith) g u).carries
  check-carries rowPort g u k v e =
      let a : (row, snbase g) ≡ k = cc in
      let b : recovery_of w.p g ≡ v = cc in
      rw (← a, ← b) (parity-read row (omega arith) g u).carries

  -- an unaltered media packet is what was sent at its position
  pub media-carries : (p : Port) (g : List ℕ) → UnalteredOn w t p g → (i : ℕ) (x : Packet) → seen_on w p g ≡ Theory.media i x → x ≡ sent w t i
  media-carries mediaPort g u i x q =
      let r = media-read g u in
      let a : position w (sequence_number g) ≡ i = cc in
      let b : packet_of (content_of w.p g) ≡ x = cc in
      let e : position w (sequence_number g) ≡ r.place = ap (position w) r.number ∙ position-number L r.place r.below in
      sym b ∙ ap packet_of r.carries ∙ ap (sent w t) (sym e ∙ a)
  media-carries columnPort g u i x q = absurd (not-check (sym q))
  media-carries rowPort g u i x q = absurd (not-check (sym q))

  -- an offer seen as media at a position lies in the window and has the name of that position
  pub media_name_lem : (p : Port) (g : List ℕ) → UnalteredOn w t p g → (i : ℕ) (x : Packet) → seen_on w p g ≡ Theory.media i x → (i < w.n) × (name_on p g ≡ media_name (number_at width w.base i))
  media_name_lem mediaPort g u i x e =
      let r = media-read g u in
      let a : position w (sequence_number g) ≡ i = cc in
      let b : position w (sequence_number g) ≡ r.place = ap (position w) r.number ∙ position-number L r.place r.below in
      (omega (arith, r.below, sym b ∙ a), ap media_name (r.number ∙ ap (number_at width w.base) (sym b ∙ a)))
  media_name_lem columnPort g u i x e = absurd (not-check (sym e))
  media_name_lem rowPort g u i x e = absurd (not-check (sym e))

  -- and back
  pub name_media : (p : Port) (g : List ℕ) (i : ℕ) → i < w.n → name_on p g ≡ media_name (number_at width w.base i) → (x : Packet) × (seen_on w p g ≡ Theory.media i x)
  name_media mediaPort g i h e =
      let a : sequence_number g ≡ number_at width w.base i = cc in
      (packet_of (content_of w.p g), ap (λ j. Theory.media j (packet_of (content_of w.p g))) (ap (position w) a ∙ position-number L i h))
  name_media columnPort g i h e = absurd (let z : ◌≡◌ {A = ℕ} 0 1 = cc in omega arith)
  name_media rowPort g i h e = absurd (let z : ◌≡◌ {A = ℕ} 0 1 = cc in omega arith)

  -- an offer seen as a check has the name of its group, which lies in the window
  pub check_name : (p : Port) (g : List ℕ) → UnalteredOn w t p g → (k : ℕ × ℕ) (v : Recovery) → seen_on w p g ≡ Theory.check k v → (inside w k.0 k.1 ≡ true) × (name_on p g ≡ parity_name k.0 k.1)
  check_name mediaPort g u k v e = absurd (not-check e)
  check_name columnPort g u k v e = let z : (column, snbase g) ≡ k = cc in rw (← z) ((parity-read column (omega arith) g u).within, refl)
  check_name rowPort g u k v e = let z : (row, snbase g) ≡ k = cc in rw (← z) ((parity-read row (omega arith) g u).within, refl)

  -- and back
  pub name_check : (p : Port) (g : List ℕ) (stream snbase' : ℕ) → name_on p g ≡ parity_name stream snbase' → (v : Recovery) × (seen_on w p g ≡ Theory.check (stream, snbase') v)
  name_check mediaPort g stream snbase' e = absurd (let z : ◌≡◌ {A = ℕ} 0 1 = cc in omega arith)
  name_check columnPort g stream snbase' e =
      let a : column ≡ stream = cc in
      let b : snbase g ≡ snbase' = cc in
      rw (← a, ← b) (recovery_of w.p g, refl)
  name_check rowPort g stream snbase' e =
      let a : row ≡ stream = cc in
      let b : snbase g ≡ snbase' = cc in
      rw (← a, ← b) (recovery_of w.p g, refl)
