-- Refusals 6 to 12: what is wrong with a datagram by itself (01, "When the desk says no").
use Rattle.std.specs.Prelude.{Bool, not, ◌&&◌, ◌||◌, List, [], ◌∷◌, ℕ, ◌-◌, eqb, ltb, length}
use Rattle.rtp.specs.Rtp.{rtp_header_size, media_type, parity_type, version, padding, extension, csrc_count, marker, payload_type}
use Rattle.rtp.specs.Fec.{parity_header_size, column, offset_of, na_of, by_na, e_bit, type_recovery, mask, x_bit, d_bit, fec_type, index, offset, na, snbase_ext}
use Rattle.rtp.specs.Length.{good_length}

-- 6: shorter than its headers
abbrev pub short : (headers : ℕ) → List ℕ → Bool
short headers g = ltb (length g) headers

-- 7: version not 2, or P, X, CC or M not zero
abbrev pub bad_rtp : List ℕ → Bool
bad_rtp g = not (eqb (version g) 2) || not (eqb (padding g) 0) || not (eqb (extension g) 0) || not (eqb (csrc_count g) 0) || not (eqb (marker g) 0)

-- 8: another payload type
abbrev pub bad_type : (type : ℕ) → List ℕ → Bool
bad_type type g = not (eqb (payload_type g) type)

-- 9: the payload part not one or more whole units up to P
abbrev pub bad_length : (headers p : ℕ) → List ℕ → Bool
bad_length headers p g = not (good_length p (length g - headers))

-- 10: E not 1, or mask, X, type, index or SNBase ext not zero
abbrev pub bad_fec : List ℕ → Bool
bad_fec g = not (eqb (e_bit g) 1) || not (eqb (mask g) 0) || not (eqb (x_bit g) 0) || not (eqb (fec_type g) 0) || not (eqb (index g) 0) || not (eqb (snbase_ext g) 0)

-- 11: PT recovery not what NA equal types give, by the profile's NA and not the packet's own
abbrev pub bad_recovery : (stream l d : ℕ) → List ℕ → Bool
bad_recovery stream l d g = not (eqb (type_recovery g) (by_na (na_of stream l d) media_type))

-- a row is only permitted where L is at least 4
abbrev pub no_row : (stream l : ℕ) → Bool
no_row stream l = not (eqb stream column) && ltb l 4

-- 12: D bit not that of the port, Offset or NA not the profile's, or a row where L is below 4
abbrev pub bad_profile : (stream l d : ℕ) → List ℕ → Bool
bad_profile stream l d g = not (eqb (d_bit g) stream) || not (eqb (offset g) (offset_of stream l)) || not (eqb (na g) (na_of stream l d)) || no_row stream l

-- the tests of a media datagram
abbrev pub media_tests : (p : ℕ) → List ℕ → List (ℕ × Bool)
media_tests p g =
    (6, short rtp_header_size g)
    ∷ (7, bad_rtp g)
    ∷ (8, bad_type media_type g)
    ∷ (9, bad_length rtp_header_size p g)
    ∷ []

-- the tests of a parity datagram that came in on the port of a stream
abbrev pub parity_tests : (stream l d p : ℕ) → List ℕ → List (ℕ × Bool)
parity_tests stream l d p g =
    (6, short parity_header_size g)
    ∷ (7, bad_rtp g)
    ∷ (8, bad_type parity_type g)
    ∷ (9, bad_length parity_header_size p g)
    ∷ (10, bad_fec g)
    ∷ (11, bad_recovery stream l d g)
    ∷ (12, bad_profile stream l d g)
    ∷ []
