-- The single changes that a call makes to the store (calls' State.antt): what each does to the view, and that it leaves the store in order.
use Rattle.std.specs.Prelude.{◌≡◌, ◌≢◌, ◌⊎◌, true, false, ◌&&◌, List, ℕ, suc, ◌+◌, ◌*◌, ◌<◌, ◌≤◌, length, get_or, set, eqb, ltb}
use Rattle.std.proofs.Math.Path.{refl}
use Rattle.std.proofs.Common.{sym, ap, ◌∙◌, inl, inr, true≢false, arith, length-set, get_or-set_same, get_or-set_other, eqb-true, ne_eqb}
use Rattle.std.proofs.Math.Bool.{not, cond}
use Rattle.std.proofs.Math.Option.{none, some}
use Rattle.std.proofs.Math.Decide.{ℕ_discrete}
use Rattle.std.proofs.lemmas.List.Edits.{length-paste}
use Rattle.sequence.specs.Lists.{up_to, count}
use Rattle.window.specs.declared.Record.{Record}
use Rattle.window.specs.declared.Window.{Window}
use Rattle.rtp.specs.Length.{good_length}
use Rattle.window.specs.Record.{blank}
use Rattle.window.specs.Limits.{rows}
use Rattle.window.specs.Bounds.{Sized}
use Rattle.window.specs.Store.{Store, length_at, record_at}
use Rattle.window.specs.Group.{is_missing}
use Rattle.window.specs.Order.{is_present, used_by, is_in_use, group_at}
use Rattle.calls.specs.Content.{Content, Recovery, content_at, recovery_at}
use Rattle.calls.specs.State.{put, put_record}
use Rattle.peel.specs.Peel.{View, gone, Keeps}
use Rattle.guarantee.proofs.Ranges.{count_raise, count_lower}
use Rattle.guarantee.specs.Packets.{packet_of}
use Rattle.guarantee.specs.Lengths.{Clean}
use Rattle.guarantee.proofs.Lengths.{clean_size}
use Rattle.xor.specs.Parts.{part_fits}
use Rattle.guarantee.proofs.Parts.{part_same, part_other}
use Rattle.guarantee.specs.View.{Limits, check_at, Shaped, slot_at, Held, Good, Missing}
use Rattle.guarantee.proofs.View.{once, slot-present}

-- ---- a slot is filled
module _ {K C X : Type 0} (s t : View K C X) (i : ℕ) (x : X) (empty : s.slot i ≡ none) (filled : t.slot i ≡ some x) (others : (j : ℕ) → j ≢ i → t.slot j ≡ s.slot j) where
  -- every packet is kept
  pub fill_keeps : Keeps s t
  fill_keeps j y e = go (ℕ_discrete j i)
    where
      go : Dec (j ≡ i) → t.slot j ≡ some y
      go (yes q) = absurd (true≢false (sym (ap gone empty) ∙ ap (λ n. gone (s.slot n)) (sym q) ∙ ap gone e))
      go (no q) = others j q ∙ e

  -- only that slot has a new packet
  pub fill_new : (j : ℕ) (y : X) → t.slot j ≡ some y → (s.slot j ≡ some y) ⊎ ((i ≡ j) × (x ≡ y))
  fill_new j y e = go (ℕ_discrete j i)
    where
      go : Dec (j ≡ i) → (s.slot j ≡ some y) ⊎ ((i ≡ j) × (x ≡ y))
      go (yes q) = let z : t.slot i ≡ some y = ap t.slot (sym q) ∙ e in inr (sym q, cc)
      go (no q) = inl (sym (others j q) ∙ e)

-- one of the two marks is not the other
not-one : (m : ℕ) → eqb m 0 ≡ true → eqb m 1 ≡ false
not-one m e = ne_eqb m 1 (λ q. let z = eqb-true m 0 e in omega arith)

-- ---- a packet becomes present
module _ {w : Window} {a u : ℕ} {s : Store} (G : Good w a u s) (i : ℕ) (c : Content) (hi : i < w.n) (hp : Clean w.p c.length c.payload) where
  -- it has P bytes
  whole : length c.payload ≡ w.p
  whole = clean_size w.p c.length c.payload hp

  -- the payload has its place in the store
  media-room : i * w.p + w.p ≤ length s.media
  media-room = let z = part_fits i w.n w.p hi in omega (arith, G.fits.media-long)

  -- the position has its mark
  mark-same : get_or (put w s i c).marks i 0 ≡ 1
  mark-same = get_or-set_same s.marks i 1 0 (omega (arith, G.fits.marks-long))

  -- the other marks stay
  mark-other : (j : ℕ) → j ≢ i → get_or (put w s i c).marks j 0 ≡ get_or s.marks j 0
  mark-other j n = get_or-set_other s.marks i j 1 0 n

  -- the position has the content
  content-same : content_at w (put w s i c) i ≡ c
  content-same =
      rw (get_or-set_same s.timestamps i c.timestamp 0 (omega (arith, G.fits.timestamps-long)), get_or-set_same s.lengths i c.length 0 (omega (arith, G.fits.lengths-long)), part_same s.media i w.p c.payload media-room whole c.length hp)

  -- the other lengths stay
  length-other : (j : ℕ) → j ≢ i → length_at (put w s i c) j ≡ length_at s j
  length-other j n = get_or-set_other s.lengths i j c.length 0 n

  -- the other contents stay
  content-other : (j : ℕ) → j ≢ i → content_at w (put w s i c) j ≡ content_at w s j
  content-other j n = rw (get_or-set_other s.timestamps i j c.timestamp 0 n, length-other j n, part_other s.media i w.p c.payload media-room whole (length_at s j) j n)

  -- its slot has the packet
  pub put-filled : slot_at w (put w s i c) i ≡ some (packet_of c)
  put-filled = slot-present w (put w s i c) i hi (rw mark-same) ∙ ap (λ x. some (packet_of x)) content-same

  -- the other slots stay
  pub put-others : (j : ℕ) → j ≢ i → slot_at w (put w s i c) j ≡ slot_at w s j
  unfolding slot_at
  put-others j n = rw (mark-other j n) (ap (λ x. cond (ltb j w.n && not (is_missing s.marks j)) (some (packet_of x)) none) (content-other j n))

  -- no record changes
  pub put-held : (k : ℕ × ℕ) (v : Recovery) → Held w s k v → Held w (put w s i c) k v
  put-held k v h = record { at = h.at; below = h.below; used = h.used; names = h.names; carries = h.carries }

  -- and none comes in
  pub put-was-held : (k : ℕ × ℕ) (v : Recovery) → Held w (put w s i c) k v → Held w s k v
  put-was-held k v h = record { at = h.at; below = h.below; used = h.used; names = h.names; carries = h.carries }

  -- the store is as long as before
  fits-put : Sized w (put w s i c)
  fits-put = record {
    media-long = rw (length-paste s.media (i * w.p) c.payload w.p media-room (omega (arith, whole))) G.fits.media-long;
    timestamps-long = rw length-set G.fits.timestamps-long;
    lengths-long = rw length-set G.fits.lengths-long;
    marks-long = rw length-set G.fits.marks-long;
    parity-long = G.fits.parity-long;
    records-long = G.fits.records-long;
  }

  -- the store stays in order, with one packet more
  pub put-good : is_missing s.marks i ≡ true → good_length w.p c.length ≡ true → Good w (a + 1) u (put w s i c)
  put-good empty good = record {
    fits = fits-put;
    mark = λ j h. marked j h (ℕ_discrete j i);
    long = λ j h e. lengthy j h e (ℕ_discrete j i);
    good_use_mark = G.good_use_mark;
    shaped = G.shaped;
    sized = G.sized;
    apart = G.apart;
    presents = let z = count_raise (is_present s.marks) (is_present (put w s i c).marks) w.n i hi (not-one (get_or s.marks i 0) empty)
        (rw mark-same) (λ j n. rw (mark-other j n)) in omega (arith, G.presents);
    in_use = G.in_use;
  }
    where
      marked : (j : ℕ) → j < w.n → Dec (j ≡ i) → get_or (set s.marks i 1) j 0 ≤ 1
      marked j h (yes q) = rw (q, mark-same) (omega arith)
      marked j h (no q) = rw (mark-other j q) (G.mark j h)

      lengthy : (j : ℕ) → j < w.n → is_present (set s.marks i 1) j ≡ true → Dec (j ≡ i) → good_length w.p (length_at (put w s i c) j) ≡ true
      lengthy j h e (yes q) = rw (q, get_or-set_same s.lengths i c.length 0 (omega (arith, G.fits.lengths-long))) good
      lengthy j h e (no q) = rw (length-other j q) (G.long j h (rw (mark-other j q) at e))

  -- of each check at most one member fewer is missing
  pub put-missing : Limits w → (m : ℕ) → Missing (suc m) w s → Missing m w (put w s i c)
  put-missing L m k = record {
    least = λ r h e. let z = k.least r h e in let o = once L (G.shaped r h e) i in
        let y = count_lower (is_missing s.marks) (is_missing (put w s i c).marks) i (group_at w s r) (λ j n. rw (mark-other j n)) in omega arith;
  }

-- ---- a record is written
module _ {w : Window} {a u : ℕ} {s : Store} (G : Good w a u s) (r : ℕ) (v : Record) (payload : List ℕ) (hr : r < rows w) (hp : Clean w.p v.payload_length payload) where
  -- it has P bytes
  long-enough : length payload ≡ w.p
  long-enough = clean_size w.p v.payload_length payload hp

  -- the payload of a record has its place in the store
  parity_room_lem : r * w.p + w.p ≤ length s.parity
  parity_room_lem = let z = part_fits r (rows w) w.p hr in omega (arith, G.fits.parity-long)

  -- no slot changes
  pub record_slot : (i : ℕ) → slot_at w (put_record w s r v payload) i ≡ slot_at w s i
  unfolding slot_at
  record_slot i = refl

  -- the record is what was written
  pub record_same : record_at (put_record w s r v payload) r ≡ v
  record_same = get_or-set_same s.records r v blank (omega (arith, G.fits.records-long))

  -- and holds the recovery
  pub recovery_same : recovery_at w (put_record w s r v payload) r
      ≡ record { content = record { timestamp = v.timestamp_recovery; length = v.length_recovery; payload = payload }; size = v.payload_length }
  recovery_same = rw (record_same, part_same s.parity r w.p payload parity_room_lem long-enough v.payload_length hp)

  -- the other records stay
  pub record_other : (q : ℕ) → q ≢ r → record_at (put_record w s r v payload) q ≡ record_at s q
  record_other q n = get_or-set_other s.records r q v blank n

  -- and their recoveries
  recovery-other : (q : ℕ) → q ≢ r → recovery_at w (put_record w s r v payload) q ≡ recovery_at w s q
  recovery-other q n = rw (record_other q n, part_other s.parity r w.p payload parity_room_lem long-enough (record_at s q).payload_length q n)

  -- a check in another record stays in hand
  pub record_held : (k : ℕ × ℕ) (x : Recovery) (h : Held w s k x) → h.at ≢ r → Held w (put_record w s r v payload) k x
  record_held k x h n = record {
    at = h.at;
    below = h.below;
    used = rw (record_other h.at n) h.used;
    names = rw (record_other h.at n) h.names;
    carries = recovery-other h.at n ∙ h.carries;
  }

  -- and was in hand
  pub record_was-held : (k : ℕ × ℕ) (x : Recovery) (h : Held w (put_record w s r v payload) k x) → h.at ≢ r → Held w s k x
  record_was-held k x h n = record {
    at = h.at;
    below = h.below;
    used = rw (record_other h.at n) at h.used;
    names = rw (record_other h.at n) at h.names;
    carries = sym (recovery-other h.at n) ∙ h.carries;
  }

  -- the store is as long as before
  fits_record : Sized w (put_record w s r v payload)
  fits_record = record {
    media-long = G.fits.media-long;
    timestamps-long = G.fits.timestamps-long;
    lengths-long = G.fits.lengths-long;
    marks-long = G.fits.marks-long;
    parity-long = rw (length-paste s.parity (r * w.p) payload w.p parity_room_lem (omega (arith, long-enough))) G.fits.parity-long;
    records-long = rw length-set G.fits.records-long;
  }

  -- what holds of the one written and of each of the others holds of each record
  pub of_each : (P : Record → Type 0) → P v → ((q : ℕ) → q < rows w → q ≢ r → P (record_at s q)) → (q : ℕ) → q < rows w → P (record_at (put_record w s r v payload) q)
  of_each P new old q h = go (ℕ_discrete q r)
    where
      go : Dec (q ≡ r) → P (record_at (put_record w s r v payload) q)
      go (yes z) = rw (z, record_same) new
      go (no z) = rw (record_other q z) (old q h z)

  -- the store stays in order, where the record written is not in use, or of good shape, with a payload of good length, and of a group that no other
  -- holds
  pub record_good_lem : (c : ℕ) → v.in_use ≤ 1 → (used_by w v ≡ true → Shaped w (v.stream, v.snbase)) → (used_by w v ≡ true → good_length w.p v.payload_length ≡ true)
      → (used_by w v ≡ true → (q : ℕ) → q < rows w → is_in_use w s q ≡ true → q ≢ r → check_at s q ≡ (v.stream, v.snbase) → ⊥)
      → c ≡ count (is_in_use w (put_record w s r v payload)) (up_to (rows w)) → Good w a c (put_record w s r v payload)
  record_good_lem c small fine good alone counted = record {
    fits = fits_record;
    mark = G.mark;
    long = G.long;
    good_use_mark = of_each (λ x. x.in_use ≤ 1) small (λ q h n. G.good_use_mark q h);
    shaped = of_each (λ x. used_by w x ≡ true → Shaped w (x.stream, x.snbase)) fine (λ q h n. G.shaped q h);
    sized = of_each (λ x. used_by w x ≡ true → good_length w.p x.payload_length ≡ true) good (λ q h n. G.sized q h);
    apart = λ q p hq hp eq ep. unlike q p hq hp eq ep (ℕ_discrete q r) (ℕ_discrete p r);
    presents = G.presents;
    in_use = counted;
  }
    where
      t : Store
      t = put_record w s r v payload

      clash : (q p : ℕ) → q ≡ r → p ≢ r → p < rows w → is_in_use w t q ≡ true → is_in_use w t p ≡ true → check_at t q ≡ check_at t p → ⊥
      clash q p z n hp eq ep e = alone (rw (z, record_same) at eq) p hp (rw (record_other p n) at ep) n (sym (rw (z, record_same, record_other p n) at e))

      unlike : (q p : ℕ) → q < rows w → p < rows w → is_in_use w t q ≡ true → is_in_use w t p ≡ true → Dec (q ≡ r) → Dec (p ≡ r) → check_at t q ≡ check_at t p → q ≡ p
      unlike q p hq hp eq ep (yes y) (yes z) e = y ∙ sym z
      unlike q p hq hp eq ep (yes y) (no z) e = absurd (clash q p y z hp eq ep e)
      unlike q p hq hp eq ep (no y) (yes z) e = absurd (clash p q z y hq ep eq (sym e))
      unlike q p hq hp eq ep (no y) (no z) e = G.apart q p hq hp (rw (record_other q y) at eq) (rw (record_other p z) at ep) (rw (record_other q y, record_other p z) at e)
