-- What refusal 18 buys (02, request 6): a parity packet that finds its whole group present and is accepted is the one that the group defines,
-- byte for byte; and the one that the window writes of a whole group never contradicts it.
use Rattle.std.specs.Prelude.{◌≡◌, refl, ◌≢◌, true, false, not, ◌||◌, ℕ, zero, suc, ◌+◌, ◌*◌, ◌/◌, ◌%◌, ◌^◌, ◌<◌, ◌≤◌, length, get_or, take, drop, eqb}
use Rattle.std.proofs.Common.{sym, ap, ap₂, ◌∙◌, true≢false, div-add-mod', arith, length-take, eqb-true, eq-eqb, ltb-false}
use mathlib.Core.List.{List, [], ◌∷◌, ◌++◌, Memᴰ}
use Rattle.std.proofs.Math.Nat.{div-div-eq-div-mul}
use Rattle.std.proofs.lemmas.Bool.{not-false}
use Rattle.answer.specs.First.{None, first-none, first-front, first_back}
use Rattle.answer.specs.Number.{number_of}
use Rattle.sequence.specs.Lists.{any}
use Rattle.sequence.proofs.Lists.{or_split as neither}
use Rattle.rtp.specs.Bytes.{byte, be16, be32}
use Rattle.rtp.specs.Rtp.{media_type, parity_type, version, padding, extension, csrc_count, marker, payload_type}
use Rattle.rtp.specs.Fec.{parity_header_size, offset_of, na_of, by_na, snbase, e_bit, type_recovery, mask, x_bit, d_bit, fec_type, index, offset, na, snbase_ext}
use Rattle.rtp.specs.Faults.{bad_rtp, bad_fec, bad_profile, parity_tests, no_row}
use Rattle.rtp.specs.Length.{good_length}
use Rattle.window.specs.declared.Window.{Window}
use Rattle.window.specs.Store.{Store, timestamp_at, length_at, payload_at}
use Rattle.window.specs.Group.{group, inside, is_missing}
use Rattle.calls.specs.Content.{content_at, Recovery, same_recovery, recovery_over}
use Rattle.calls.specs.Datagram.{Outer, parity_packet}
use Rattle.calls.specs.Accept.{recovery_of}
use Rattle.calls.specs.Call.{standing_tests, parity_place_tests, offered_parity, parity_of}
use Rattle.calls.specs.Standing.{Standing}
use Rattle.calls.proofs.Standing.{standing-good}
use Rattle.calls.proofs.Passed.{parity-passed, none_first}
use Rattle.guarantee.proofs.Ranges.{any_none}
use Rattle.guarantee.specs.Packets.{first_cells}
use Rattle.guarantee.proofs.Packets.{whole_xors}
use Rattle.guarantee.specs.Lengths.{Clean, zero_past}
use Rattle.guarantee.proofs.Lengths.{padded-front, zeros_clean, padded-past, past_more, past_xors, units_le, longest-le, longest-good}
use Rattle.guarantee.proofs.View.{group-lt, content-whole, mark-one}
use Rattle.guarantee.specs.Order.{Ordered, standing}
use Rattle.guarantee.proofs.Offers.{none_split}
use Rattle.guarantee.proofs.Wire.{xors_lt, parity-snbase, parity-recovery}
use Rattle.guarantee.proofs.Sent.{group-some}
use Rattle.guarantee.proofs.Lying.{recovery_self, recovery_same, parity-first, parity-behind, parity-lies, contradicted}
use Rattle.guarantee.specs.Agreed.{outer_of}

-- ---- bytes
-- a list of n elements or more is its first n, then the rest
front_rest : (n : ℕ) (g : List ℕ) → n ≤ length g → g ≡ first_cells n (byte g) ++ drop n g
front_rest zero g h = refl
front_rest (suc n) [] h = absurd (omega arith)
front_rest (suc n) (b ∷ g) h = ap (λ l. b ∷ l) (front_rest n g (omega arith))

-- every place of a datagram has a byte
byte-lt : (g : List ℕ) → ((b : ℕ) → Memᴰ b g → b < 256) → (i : ℕ) → byte g i < 256
byte-lt [] h i = omega arith
byte-lt (b ∷ g) h zero = h b (Memᴰ.head refl)
byte-lt (b ∷ g) h (suc i) = byte-lt g (λ c m. h c (Memᴰ.tail m)) i

-- the higher byte of 16 bits is written as it was read
high16 : (a b : ℕ) → a < 256 → b < 256 → be16 a b / 256 % 256 ≡ a
high16 a b ha hb = omega arith

-- and the lower
low16 : (a b : ℕ) → b < 256 → be16 a b % 256 ≡ b
low16 a b hb = omega arith

-- and those of 32 bits
write32 : (a b c d : ℕ) → a < 256 → b < 256 → c < 256 → d < 256
    → (be32 a b c d / 16777216 % 256 ≡ a) × (be32 a b c d / 65536 % 256 ≡ b) × (be32 a b c d / 256 % 256 ≡ c) × (be32 a b c d % 256 ≡ d)
write32 a b c d ha hb hc hd = (omega arith, omega arith, omega arith, omega arith)

-- a number is the other where the test that it is not does not apply
is_eq : (a b : ℕ) → not (eqb a b) ≡ false → a ≡ b
is_eq a b e = eqb-true a b (not-false (eqb a b) e)

-- a number by its quotient and its remainder
whole_of : (n m q r : ℕ) → n / m ≡ q → n % m ≡ r → n ≡ q * m + r
whole_of n m q r e f = sym (div-add-mod' n m) ∙ ap₂ (λ x y. x * m + y) e f

-- the first byte by its fields of 2, 1, 1 and 4 bits
by_rtp : (b : ℕ) → b / 64 ≡ 2 → b / 32 % 2 ≡ 0 → b / 16 % 2 ≡ 0 → b % 16 ≡ 0 → b ≡ 128
by_rtp b v p x c =
    let three : b / 32 ≡ 4 = whole_of (b / 32) 2 2 0 (div-div-eq-div-mul b 32 2 ∙ v) p in
    let four : b / 16 ≡ 8 = whole_of (b / 16) 2 4 0 (div-div-eq-div-mul b 16 2 ∙ three) x in
    whole_of b 16 8 0 four c

-- byte 24 by its fields of 1, 1, 3 and 3 bits
by_fec : (b stream : ℕ) → b / 128 ≡ 0 → b / 64 % 2 ≡ stream → b / 8 % 8 ≡ 0 → b % 8 ≡ 0 → b ≡ stream * 64
by_fec b stream x d t i =
    let two = whole_of (b / 64) 2 0 stream (div-div-eq-div-mul b 64 2 ∙ x) d in
    let five = whole_of (b / 8) 8 (0 * 2 + stream) 0 (div-div-eq-div-mul b 8 8 ∙ two) t in
    let eight = whole_of b 8 ((0 * 2 + stream) * 8 + 0) 0 five i in
    omega (arith, eight)

-- the first byte, of which the version is 2 and the rest zero
first_byte : (g : List ℕ) → bad_rtp g ≡ false → (byte g 0 ≡ 128) × (marker g ≡ 0)
first_byte g e =
    let m = neither (not (eqb (version g) 2) || not (eqb (padding g) 0) || not (eqb (extension g) 0) || not (eqb (csrc_count g) 0)) (not (eqb (marker g) 0)) e in
    let c = neither (not (eqb (version g) 2) || not (eqb (padding g) 0) || not (eqb (extension g) 0)) (not (eqb (csrc_count g) 0)) m.0 in
    let x = neither (not (eqb (version g) 2) || not (eqb (padding g) 0)) (not (eqb (extension g) 0)) c.0 in
    let p = neither (not (eqb (version g) 2)) (not (eqb (padding g) 0)) x.0 in
    (by_rtp (byte g 0) (is_eq (version g) 2 p.0) (is_eq (padding g) 0 p.1) (is_eq (extension g) 0 x.1) (is_eq (csrc_count g) 0 c.1), is_eq (marker g) 0 m.1)

-- the fields that refusal 10 is about
fec_fields : (g : List ℕ) → bad_fec g ≡ false → (e_bit g ≡ 1) × (mask g ≡ 0) × (x_bit g ≡ 0) × (fec_type g ≡ 0) × (index g ≡ 0) × (snbase_ext g ≡ 0)
fec_fields g e =
    let s = neither (not (eqb (e_bit g) 1) || not (eqb (mask g) 0) || not (eqb (x_bit g) 0) || not (eqb (fec_type g) 0) || not (eqb (index g) 0)) (not (eqb (snbase_ext g) 0)) e in
    let i = neither (not (eqb (e_bit g) 1) || not (eqb (mask g) 0) || not (eqb (x_bit g) 0) || not (eqb (fec_type g) 0)) (not (eqb (index g) 0)) s.0 in
    let t = neither (not (eqb (e_bit g) 1) || not (eqb (mask g) 0) || not (eqb (x_bit g) 0)) (not (eqb (fec_type g) 0)) i.0 in
    let x = neither (not (eqb (e_bit g) 1) || not (eqb (mask g) 0)) (not (eqb (x_bit g) 0)) t.0 in
    let m = neither (not (eqb (e_bit g) 1)) (not (eqb (mask g) 0)) x.0 in
    (is_eq (e_bit g) 1 m.0, is_eq (mask g) 0 m.1, is_eq (x_bit g) 0 x.1, is_eq (fec_type g) 0 t.1, is_eq (index g) 0 i.1, is_eq (snbase_ext g) 0 s.1)

-- and those that refusal 12 is
profile-fields : (stream l d : ℕ) (g : List ℕ) → bad_profile stream l d g ≡ false → (d_bit g ≡ stream) × (offset g ≡ offset_of stream l) × (na g ≡ na_of stream l d)
profile-fields stream l d g e =
    let r = neither (not (eqb (d_bit g) stream) || not (eqb (offset g) (offset_of stream l)) || not (eqb (na g) (na_of stream l d))) (no_row stream l) e in
    let n = neither (not (eqb (d_bit g) stream) || not (eqb (offset g) (offset_of stream l))) (not (eqb (na g) (na_of stream l d))) r.0 in
    let o = neither (not (eqb (d_bit g) stream)) (not (eqb (offset g) (offset_of stream l))) n.0 in
    (is_eq (d_bit g) stream o.0, is_eq (offset g) (offset_of stream l) o.1, is_eq (na g) (na_of stream l d) n.1)

-- a parity datagram that has none of the faults 6 to 12 is the one written of its own fields
faultless-written : (stream l d p : ℕ) (g : List ℕ) → ((b : ℕ) → Memᴰ b g → b < 256) → None (parity_tests stream l d p g) → good_length p (length (drop parity_header_size g)) ≡ true
    → g ≡ parity_packet (outer_of g) stream l d (snbase g) (recovery_of p g)
faultless-written stream l d p g bytes n good =
    let rtp = first_byte g n.1.0 in
    let type = is_eq (payload_type g) parity_type n.1.1.0 in
    let fec = fec_fields g n.1.1.1.1.0 in
    let recovery = is_eq (type_recovery g) (by_na (na_of stream l d) media_type) n.1.1.1.1.1.0 in
    let profile = profile-fields stream l d g n.1.1.1.1.1.1.0 in
    let h = byte-lt g bytes in
    let stamp = write32 (byte g 4) (byte g 5) (byte g 6) (byte g 7) (h 4) (h 5) (h 6) (h 7) in
    let source = write32 (byte g 8) (byte g 9) (byte g 10) (byte g 11) (h 8) (h 9) (h 10) (h 11) in
    let stamps = write32 (byte g 20) (byte g 21) (byte g 22) (byte g 23) (h 20) (h 21) (h 22) (h 23) in
    let b1 : byte g 1 ≡ 96 = omega (arith, rtp.1, type) in
    let b16 : byte g 16 ≡ 128 + by_na (na_of stream l d) media_type = omega (arith, fec.0, recovery) in
    let b17 : byte g 17 ≡ 0 = omega (arith, fec.1) in
    let b18 : byte g 18 ≡ 0 = omega (arith, fec.1) in
    let b19 : byte g 19 ≡ 0 = omega (arith, fec.1) in
    let b24 : byte g 24 ≡ stream * 64 = by_fec (byte g 24) stream fec.2 profile.0 fec.3 fec.4 in
    front_rest 28 g (ltb-false (length g) 28 n.0)
    ∙ (λ k. rtp.0 k
    ∷ b1 k
    ∷ sym (high16 (byte g 2) (byte g 3) (h 2) (h 3)) k
    ∷ sym (low16 (byte g 2) (byte g 3) (h 3)) k
    ∷ sym stamp.0 k
    ∷ sym stamp.1 k
    ∷ sym stamp.2 k
    ∷ sym stamp.3 k
    ∷ sym source.0 k
    ∷ sym source.1 k
    ∷ sym source.2 k
    ∷ sym source.3 k
    ∷ sym (high16 (byte g 12) (byte g 13) (h 12) (h 13)) k
    ∷ sym (low16 (byte g 12) (byte g 13) (h 13)) k
    ∷ sym (high16 (byte g 14) (byte g 15) (h 14) (h 15)) k
    ∷ sym (low16 (byte g 14) (byte g 15) (h 15)) k
    ∷ b16 k
    ∷ b17 k
    ∷ b18 k
    ∷ b19 k
    ∷ sym stamps.0 k
    ∷ sym stamps.1 k
    ∷ sym stamps.2 k
    ∷ sym stamps.3 k
    ∷ b24 k
    ∷ profile.1 k
    ∷ profile.2 k
    ∷ fec.5 k
    ∷ sym (padded-front p (drop parity_header_size g) (units_le p p (length (drop parity_header_size g)) good)) k)

-- ---- what 18 buys
-- a parity packet that finds its whole group present and is accepted is the one that the window would write itself, all of its bytes
pub accepted_defined : (w : Window) (stream : ℕ) (g : List ℕ) → ((b : ℕ) → Memᴰ b g → b < 256) → (s : Store) → any (is_missing s.marks) (group w stream (snbase g)) ≡ false
    → number_of (offered_parity stream w g s).answer ≡ 0 → g ≡ parity_of w (outer_of g) stream (snbase g) s
accepted_defined w stream g bytes s whole e =
    let z = sym (parity-first stream w g s) ∙ e in
    let passed = parity-passed w stream g s z in
    let tests = parity_tests stream w.l w.d w.p g in
    let faultless = first-none tests (tt, (tt, (tt, (tt, (tt, (tt, (tt, tt)))))))
    (first_back (standing_tests w s 0 0) tests (tt, (tt, (tt, (tt, (tt, tt))))) (first-front (standing_tests w s 0 0 ++ tests) (parity_place_tests w stream g s) z)) in
    faultless-written stream w.l w.d w.p g bytes faultless passed.size
    ∙ ap (parity_packet (outer_of g) stream w.l w.d (snbase g)) (sym (recovery_same (recovery_over w s (group w stream (snbase g))) (recovery_of w.p g) (passed.agrees whole)))

-- ---- the parity that the window writes
module _ (w : Window) (based : w.base < 2 ^ 16) (o : Outer) (stream snbase' : ℕ) (fits : snbase' < 2 ^ 16) (s : Store) (stamped : (i : ℕ) → i < w.n → timestamp_at s i < 2 ^ 32) where
  -- the parity packet of a group
  abbrev own : List ℕ
  own = parity_of w o stream snbase' s

  -- what it carries
  abbrev own_recovery : Recovery
  own_recovery = recovery_over w s (group w stream snbase')

  -- its SNBase is read
  own-snbase : snbase own ≡ snbase'
  own-snbase = parity-snbase o stream w.l w.d snbase' own_recovery fits

  -- its recovery is read, where the window stands and the group is whole
  own_recovery_lem : Standing w s 0 0 → inside w stream snbase' ≡ true → any (is_missing s.marks) (group w stream snbase') ≡ false → recovery_of w.p own ≡ own_recovery
  own_recovery_lem S within whole = parity-recovery o stream w.l w.d snbase' own_recovery w.p good clean
      (xors_lt 32 (timestamp_at s) members (λ j m. stamped j (below j m)))
      (xors_lt 16 (length_at s) members (λ j m. omega (arith, units_le w.p w.p (length_at s j) (long j m), S.set_up.p-high)))
    where
      members : List ℕ
      members = group w stream snbase'

      below : (j : ℕ) → Memᴰ j members → j < w.n
      below = group-lt w stream snbase' within

      order : Ordered w w.present w.in_use s
      order = standing w w.present w.in_use s S

      long : (j : ℕ) → Memᴰ j members → good_length w.p (length_at s j) ≡ true
      long j m = order.good.long j (below j m) (eq-eqb (get_or s.marks j 0) 1 (mark-one order.good j (below j m) (any_none (is_missing s.marks) members whole j m)))

      good : good_length w.p own_recovery.size ≡ true
      good = longest-good w.p (length_at s) members long (group-some (record { based = based; set_up = S.set_up }) stream snbase')

      past : (j : ℕ) → Memᴰ j members → zero_past own_recovery.size (payload_at w s j) ≡ true
      past j m =
          let bytes : List ℕ = take (length_at s j) (drop (j * w.p) s.media) in
          past_more (length bytes) own_recovery.size (payload_at w s j) (omega (arith, length-take (length_at s j) (drop (j * w.p) s.media), longest-le (length_at s) members j m)) (padded-past w.p bytes w.p)

      clean : Clean w.p own_recovery.size own_recovery.content.payload
      clean = zeros_clean w.p own_recovery.size own_recovery.content.payload (whole_xors w.p (content_at w s) (content-whole w s) members)
          (past_xors w.p own_recovery.size (content_at w s) members past)

  -- so offered to the same window it never contradicts its group
  pub written-agrees : number_of (offered_parity stream w (parity_of w o stream snbase' s) s).answer ≢ 18
  written-agrees e =
      let z = parity-lies stream w own s e in
      let c = contradicted w s stream own z.1 in
      let S = standing-good w s 0 0 (none_first (standing_tests w s 0 0) (none_split (standing_tests w s 0 0) (parity_tests stream w.l w.d w.p own) (parity-behind stream w own s e).0).0) in
      let r = own_recovery_lem S (ap (inside w stream) (sym own-snbase) ∙ z.0) (ap (λ n. any (is_missing s.marks) (group w stream n)) (sym own-snbase) ∙ c.0) in
      true≢false (sym (recovery_self own_recovery) ∙ ap₂ same_recovery (ap (λ n. recovery_over w s (group w stream n)) (sym own-snbase)) (sym r) ∙ c.1)
