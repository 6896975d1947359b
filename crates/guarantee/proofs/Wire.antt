-- What a receiver reads in an unaltered datagram (calls' Datagram.antt): its own fields, and no fault of refusals 6 to 12.
use Rattle.std.specs.Prelude.{◌≡◌, refl, Bool, true, false, not, cond, ℕ, ◌+◌, ◌*◌, ◌-◌, ◌/◌, ◌%◌, ◌^◌, ◌<◌, ◌≤◌, length, take, eqb}
use Rattle.std.proofs.Common.{sym, ap, ◌∙◌, arith, length-take-le, pow_pos, eq-eqb, le-ltb}
use mathlib.Core.List.{List, [], ◌∷◌, map, Memᴰ}
use Rattle.std.proofs.Math.Nat.{div-div-eq-div-mul}
use Rattle.std.proofs.lemmas.Nat.{xor_lt}
use Rattle.answer.specs.First.{None}
use Rattle.xor.specs.Xor.{xor_all}
use Rattle.rtp.specs.Bytes.{be16, be32}
use Rattle.rtp.specs.Rtp.{sequence_number}
use Rattle.rtp.specs.Fec.{offset_of, na_of, by_na, snbase}
use Rattle.rtp.specs.Faults.{no_row, bad_fec, bad_recovery, bad_profile, media_tests, parity_tests}
use Rattle.rtp.specs.Length.{good_length}
use Rattle.calls.specs.Content.{Content, Recovery}
use Rattle.calls.specs.Datagram.{media_packet, Outer, parity_packet}
use Rattle.calls.specs.Accept.{content_of, recovery_of}
use Rattle.guarantee.specs.Lengths.{Clean}
use Rattle.guarantee.proofs.Lengths.{clean_size, units_le}

-- ---- numbers, written and read
-- 16 bits are read as they were written
read16 : (x : ℕ) → x < 2 ^ 16 → be16 (x / 256 % 256) (x % 256) ≡ x
read16 x h = omega arith

-- and 32 bits
read32 : (x : ℕ) → x < 2 ^ 32 → be32 (x / 16777216 % 256) (x / 65536 % 256) (x / 256 % 256) (x % 256) ≡ x
read32 x h =
    let a : x / 16777216 % 256 ≡ x / 256 / 256 / 256 = rw (div-div-eq-div-mul x 256 256, div-div-eq-div-mul x 65536 256) (omega arith) in
    let b : x / 65536 ≡ x / 256 / 256 = sym (div-div-eq-div-mul x 256 256) in
    rw (a, b) (omega arith)

-- the exclusive-or of numbers of some bits is of as many
pub xors_lt : (bits : ℕ) (f : ℕ → ℕ) (g : List ℕ) → ((j : ℕ) → Memᴰ j g → f j < 2 ^ bits) → xor_all (map f g) < 2 ^ bits
xors_lt bits f [] h = pow_pos bits
xors_lt bits f (j ∷ g) h = xor_lt bits (f j) (xor_all (map f g)) (h j (Memᴰ.head refl)) (xors_lt bits f g (λ i m. h i (Memᴰ.tail m)))

-- a payload of n bytes has n bytes to write
written : (p n : ℕ) (l : List ℕ) → n ≤ p → Clean p n l → length (take n l) ≡ n
written p n l h e = length-take-le n l (omega (arith, clean_size p n l e))

-- ---- media
module _ (number ssrc : ℕ) (c : Content) where
  -- its sequence number is read
  pub media-number : number < 2 ^ 16 → sequence_number (media_packet number ssrc c) ≡ number
  media-number h = read16 number h

  module _ (p : ℕ) (good : good_length p c.length ≡ true) (clean : Clean p c.length c.payload) where
    -- the bytes of its payload
    media-size : length (take c.length c.payload) ≡ c.length
    media-size = written p c.length c.payload (units_le p p c.length good) clean

    -- its content is read
    pub media-content : c.timestamp < 2 ^ 32 → content_of p (media_packet number ssrc c) ≡ c
    media-content h = λ k. record { timestamp = read32 c.timestamp h k; length = media-size k; payload = clean k }

    -- refusals 6 to 9 do not apply to it
    pub media-faultless : None (media_tests p (media_packet number ssrc c))
    media-faultless =
        let e : length (media_packet number ssrc c) - 12 ≡ c.length = omega (arith, media-size) in
        (le-ltb (length (media_packet number ssrc c)) 12 (omega arith), (refl, (refl, (ap not (ap (good_length p) e ∙ good), tt))))

-- ---- parity
module _ (o : Outer) (stream l d snbase' : ℕ) (v : Recovery) where
  -- its SNBase is read
  pub parity-snbase : snbase' < 2 ^ 16 → snbase (parity_packet o stream l d snbase' v) ≡ snbase'
  parity-snbase h = read16 snbase' h

  module _ (p : ℕ) (good : good_length p v.size ≡ true) (clean : Clean p v.size v.content.payload) where
    -- the bytes of its payload
    parity-size : length (take v.size v.content.payload) ≡ v.size
    parity-size = written p v.size v.content.payload (units_le p p v.size good) clean

    -- its recovery is read
    pub parity-recovery : v.content.timestamp < 2 ^ 32 → v.content.length < 2 ^ 16 → recovery_of p (parity_packet o stream l d snbase' v) ≡ v
    parity-recovery h b =
        λ k. record {
          content = record { timestamp = read32 v.content.timestamp h k; length = read16 v.content.length b k; payload = clean k };
          size = parity-size k;
        }

    -- refusals 6 to 12 do not apply to it
    pub parity-faultless : stream ≤ 1 → no_row stream l ≡ false → None (parity_tests stream l d p (parity_packet o stream l d snbase' v))
    parity-faultless hs nr =
        let e : length (parity_packet o stream l d snbase' v) - 28 ≡ v.size = omega (arith, parity-size) in
        (le-ltb (length (parity_packet o stream l d snbase' v)) 28 (omega arith), (refl, (refl, (ap not (ap (good_length p) e ∙ good), (fec, (recovery, (profile, tt)))))))
      where
        small : (b : Bool) (v m : ℕ) → v < m → 0 < m → cond b 0 v < m
        small true v m h z = z
        small false v m h z = h

        type_lt : by_na (na_of stream l d) 33 < 128
        type_lt = small (eqb (na_of stream l d % 2) 0) 33 128 (omega arith) (omega arith)

        fec : bad_fec (parity_packet o stream l d snbase' v) ≡ false
        fec = rw (eq-eqb ((128 + by_na (na_of stream l d) 33) / 128) 1 (omega (arith, type_lt)), eq-eqb (stream * 64 / 128) 0 (omega arith), eq-eqb (stream * 64 / 8 % 8) 0 (omega arith), eq-eqb (stream * 64 % 8) 0 (omega arith))

        recovery : bad_recovery stream l d (parity_packet o stream l d snbase' v) ≡ false
        recovery = rw (eq-eqb ((128 + by_na (na_of stream l d) 33) % 128) (by_na (na_of stream l d) 33) (omega (arith, type_lt)))

        profile : bad_profile stream l d (parity_packet o stream l d snbase' v) ≡ false
        profile = rw (eq-eqb (stream * 64 / 64 % 2) stream (omega arith), eq-eqb (offset_of stream l) (offset_of stream l) refl, eq-eqb (na_of stream l d) (na_of stream l d) refl, nr)
