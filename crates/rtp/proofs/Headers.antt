-- Both headers of a parity packet, the one written behind the other; and numbers that fit their bytes. Assumes nothing.
use mathlib.Core.Path.{◌≡◌, ◌∙◌}
use mathlib.Core.Bool.{Bool, true, false, cond}
use mathlib.Core.List.{List, ◌++◌}
use Prim.Native.Nat.{ℕ, ◌%◌, ◌≤◌}
use native.Mathlib.Omega.{arith}
use lib.Dec.{eqb}
use lib.Seq.{sets}
use Rattle.rtp.specs.Rtp.{rtp_header_size, media_type, parity_type, rtp_header}
use Rattle.rtp.specs.Fec.{fec_header, fec_bytes, offset_of, na_of, by_na}

pub headers_laid : (stream l d snbase size recovery sequence timestamp ssrc na offset kind : ℕ) (out one two : List ℕ) → na ≡ na_of stream l d → offset ≡ offset_of stream l → kind ≡ by_na na media_type
    → one ≡ sets out 0 (rtp_header parity_type sequence timestamp ssrc) → two ≡ sets one rtp_header_size (fec_bytes snbase size kind recovery stream offset na)
    → two ≡ sets out 0 (rtp_header parity_type sequence timestamp ssrc ++ fec_header stream l d snbase size recovery)
headers_laid stream l d snbase size recovery sequence timestamp ssrc na offset kind out one two en eo ek e1 e2 = e2 ∙ rw (e1, ek, eo, en)

-- what a value leaves over a group is no more than the value
pub by_na-le : (na v : ℕ) → by_na na v ≤ v
by_na-le na v = go (eqb (na % 2) 0) where
  go : (b : Bool) → cond b 0 v ≤ v
  go true = omega arith
  go false = omega arith

-- Offset and NA are a side of the matrix, or 1
pub side_le : (b : Bool) (x y most : ℕ) → x ≤ most → y ≤ most → cond b x y ≤ most
side_le true x y most h k = h
side_le false x y most h k = k
