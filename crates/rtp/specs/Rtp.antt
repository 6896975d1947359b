-- The RTP header, 12 bytes (RFC 3550, 5.1; 01, "Bytes on the wire"):
--
--     byte 0      1         2-3              4-7        8-11
--     V P X CC    M PT      sequence number  timestamp  SSRC
--     2 1 1 4     1 7 bits
use Rattle.std.specs.Prelude.{List, ◌∷◌, ◌++◌, ℕ, ◌/◌, ◌%◌}
use Rattle.rtp.specs.Bytes.{byte, be16, be32, bytes16, bytes32}

abbrev pub rtp_header_size : ℕ
rtp_header_size = 12

-- payload type of media (RFC 3551: an MPEG-2 transport stream)
abbrev pub media_type : ℕ
media_type = 33

-- payload type of parity
abbrev pub parity_type : ℕ
parity_type = 96

-- ---- the fields of a datagram
abbrev pub version : List ℕ → ℕ
version g = byte g 0 / 64

abbrev pub padding : List ℕ → ℕ
padding g = byte g 0 / 32 % 2

abbrev pub extension : List ℕ → ℕ
extension g = byte g 0 / 16 % 2

abbrev pub csrc_count : List ℕ → ℕ
csrc_count g = byte g 0 % 16

abbrev pub marker : List ℕ → ℕ
marker g = byte g 1 / 128

abbrev pub payload_type : List ℕ → ℕ
payload_type g = byte g 1 % 128

abbrev pub sequence_number : List ℕ → ℕ
sequence_number g = be16 (byte g 2) (byte g 3)

abbrev pub timestamp : List ℕ → ℕ
timestamp g = be32 (byte g 4) (byte g 5) (byte g 6) (byte g 7)

abbrev pub ssrc : List ℕ → ℕ
ssrc g = be32 (byte g 8) (byte g 9) (byte g 10) (byte g 11)

-- ---- the header as bytes: version 2, and P, X, CC and M zero
abbrev pub rtp_header : (type number stamp source : ℕ) → List ℕ
rtp_header type number stamp source = 128 ∷ type ∷ bytes16 number ++ bytes32 stamp ++ bytes32 source
