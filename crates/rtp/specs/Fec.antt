-- The parity (FEC) header, 16 bytes after the RTP header (004, figure 3; SMPTE 2022-1; 01, "Bytes on the wire"):
--
--     byte 12-13   14-15            16             17-19  20-23               24                  25      26  27
--     SNBase low   length recovery  E PT recovery  mask   timestamp recovery  X D type index      Offset  NA  SNBase ext
--                                   1 7 bits                                  1 1 3    3 bits
use Rattle.std.specs.Prelude.{◌≡◌, cond, List, [], ◌∷◌, ◌++◌, ℕ, ◌+◌, ◌*◌, ◌/◌, ◌%◌, eqb, replicate}
use Rattle.xor.specs.Xor.{xor_all}
use Rattle.xor.specs.Laws.{xor_all-same}
use Rattle.rtp.specs.Bytes.{byte, be16, be32, bytes16, bytes32}
use Rattle.rtp.specs.Rtp.{media_type}

-- bytes of both headers of a parity packet
abbrev pub parity_header_size : ℕ
parity_header_size = 28

-- ---- the fields of a datagram
abbrev pub snbase : List ℕ → ℕ
snbase g = be16 (byte g 12) (byte g 13)

abbrev pub length_recovery : List ℕ → ℕ
length_recovery g = be16 (byte g 14) (byte g 15)

abbrev pub e_bit : List ℕ → ℕ
e_bit g = byte g 16 / 128

abbrev pub type_recovery : List ℕ → ℕ
type_recovery g = byte g 16 % 128

abbrev pub mask : List ℕ → ℕ
mask g = be32 0 (byte g 17) (byte g 18) (byte g 19)

abbrev pub timestamp_recovery : List ℕ → ℕ
timestamp_recovery g = be32 (byte g 20) (byte g 21) (byte g 22) (byte g 23)

abbrev pub x_bit : List ℕ → ℕ
x_bit g = byte g 24 / 128

abbrev pub d_bit : List ℕ → ℕ
d_bit g = byte g 24 / 64 % 2

abbrev pub fec_type : List ℕ → ℕ
fec_type g = byte g 24 / 8 % 8

abbrev pub index : List ℕ → ℕ
index g = byte g 24 % 8

abbrev pub offset : List ℕ → ℕ
offset g = byte g 25

abbrev pub na : List ℕ → ℕ
na g = byte g 26

abbrev pub snbase_ext : List ℕ → ℕ
snbase_ext g = byte g 27

-- ---- the two streams of a profile of L columns and D rows, by the D bit that they carry
abbrev pub column : ℕ
column = 0

abbrev pub row : ℕ
row = 1

-- the step from one member of a group to the next: L down a column, 1 along a row
abbrev pub offset_of : (stream l : ℕ) → ℕ
offset_of stream l = cond (eqb stream column) l 1

-- the number of members of a group: D in a column, L in a row
abbrev pub na_of : (stream l d : ℕ) → ℕ
na_of stream l d = cond (eqb stream column) d l

-- the exclusive-or of one value over a group of na members: it stays where na is odd
abbrev pub by_na : (na v : ℕ) → ℕ
by_na na v = cond (eqb (na % 2) 0) 0 v

-- and so it is: what na equal values leave
pub by_na-xor : (na v : ℕ) → xor_all (replicate na v) ≡ by_na na v
by_na-xor = xor_all-same

-- ---- the header as bytes: E is 1, mask, X, type, index and SNBase ext zero
abbrev pub fec_bytes : (start length type stamps stream offset na : ℕ) → List ℕ
fec_bytes start length type stamps stream offset na =
    bytes16 start
    ++ bytes16 length
    ++ ((128 + type) ∷ 0 ∷ 0 ∷ 0 ∷ [])
    ++ bytes32 stamps
    ++ ((stream * 64) ∷ offset ∷ na ∷ 0 ∷ [])

-- the header of a group that starts at a number, with the exclusive-or of its lengths and of its timestamps: all types are 33
abbrev pub fec_header : (stream l d start lengths stamps : ℕ) → List ℕ
fec_header stream l d start lengths stamps =
    fec_bytes start lengths (by_na (na_of stream l d) media_type) stamps stream (offset_of stream l) (na_of stream l d)
