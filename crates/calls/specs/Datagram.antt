-- Whole datagrams (01, "Bytes on the wire").
use Rattle.std.specs.Prelude.{List, ◌++◌, ℕ, take}
pub use Rattle.xor.specs.Xor.{xor_payloads}
use Rattle.rtp.specs.Rtp.{rtp_header, media_type, parity_type}
use Rattle.rtp.specs.Fec.{fec_header}
use Rattle.calls.specs.Content.{Content, Recovery}

-- a media packet: its payload at its true length
abbrev pub media_packet : (number ssrc : ℕ) → Content → List ℕ
media_packet number ssrc c = rtp_header media_type number c.timestamp ssrc ++ take c.length c.payload

-- what a parity packet takes from the caller
pub record Outer : Type 0 where
  pub sequence : ℕ
  pub timestamp : ℕ
  pub ssrc : ℕ

-- the parity packet of the group of a stream that starts at SNBase, with its recovery
abbrev pub parity_packet : Outer → (stream l d snbase : ℕ) → Recovery → List ℕ
parity_packet o stream l d snbase recovery =
    rtp_header parity_type o.sequence o.timestamp o.ssrc
    ++ fec_header stream l d snbase recovery.content.length recovery.content.timestamp
    ++ take recovery.size recovery.content.payload
