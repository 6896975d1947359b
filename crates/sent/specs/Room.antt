-- A sender's room by what its slots hold: an offer joins the packet to the sums of its column and of its row.
use Rattle.std.specs.Prelude.{◌≡◌, List, ℕ, max, length, drop, replicate}
use Rattle.std.proofs.Common.{sym, ◌∙◌, ap, arith}
use Rattle.std.proofs.lemmas.Nat.{xor_comm}
use Rattle.std.specs.Int.Bits.{xor_zero_l}
use Rattle.std.proofs.lemmas.List.{length-replicate}
use Rattle.xor.specs.Xor.{zip_xor, length-zip}
use Rattle.xor.specs.Laws.{zip_comm, zip-zero}
use Rattle.xor.specs.Padded.{length-padded}
use Rattle.rtp.specs.Rtp.{rtp_header_size}
use Rattle.calls.specs.Content.{Recovery}
use Rattle.sender.specs.Sums.{alone, together}
use Rattle.sent.specs.Sums.{Laws}

-- the recovery of no packet
abbrev pub empty : (p : ℕ) → Recovery
empty p = record { content = record { timestamp = 0; length = 0; payload = replicate p 0 }; size = 0 }

-- a recovery whose payload has p bytes
abbrev pub Sized : (p : ℕ) → Recovery → Type 0
Sized p v = length v.content.payload ≡ p

zero-zip : (p : ℕ) (l : List ℕ) → length l ≡ p → zip_xor (replicate p 0) l ≡ l
zero-zip p l e = ap (λ (n : ℕ). zip_xor (replicate n 0) l) (sym e) ∙ zip-zero l

-- recoveries of p bytes add up
pub together-laws : (p : ℕ) → Laws together (empty p) (Sized p)
together-laws p = record {
  nothing = length-replicate p 0;
  closed = λ u v h k. length-zip u.content.payload v.content.payload (h ∙ sym k) ∙ h;
  left = λ v h. left v h;
  right = λ v h. commutes v (empty p) ∙ left v h;
}
  where
    left : (v : Recovery) → Sized p v → together (empty p) v ≡ v
    left v h =
        let m : max 0 v.size ≡ v.size = omega arith in
        rw (zero-zip p v.content.payload h, xor_zero_l v.content.timestamp, xor_zero_l v.content.length, m)

    commutes : (u v : Recovery) → together u v ≡ together v u
    commutes u v =
        let m : max u.size v.size ≡ max v.size u.size = omega arith in
        rw (zip_comm u.content.payload v.content.payload, xor_comm u.content.timestamp v.content.timestamp, xor_comm u.content.length v.content.length, m)

-- a packet alone has p bytes
pub alone-sized : (p : ℕ) (g : List ℕ) → Sized p (alone p g)
alone-sized p g = length-padded p (drop rtp_header_size g)
