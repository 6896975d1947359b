-- The tests of an offer one after the other: those of a standing window, of the datagram, of its place. Assumes nothing.
use mathlib.Core.Path.{◌≡◌, sym, ap, ◌∙◌}
use mathlib.Core.Bool.{Bool}
use mathlib.Core.List.{List, ◌++◌}
use Prim.Native.Nat.{ℕ, ◌+◌, ◌-◌, ◌≤◌}
use native.Mathlib.Omega.{arith}
use lib.ListN.{length, take, drop, length-drop}
use lib.Seq.{take_all, length-take-le, paste}
use Rattle.xor.specs.Xor.{padded}
use Rattle.xor.specs.Same.{same}
use Rattle.xor.specs.Padded.{same-padded, length-padded}
use Rattle.std.proofs.lemmas.Slice.{put_mid-paste}
use borrow.Rule.Slice.PartMut.{put_mid}
use Rattle.rtp.specs.Length.{whole-high}
use Rattle.offer.specs.Rows.{Fitting}
use borrow.Author.Tests.{ltb-false, not-false, ne_eqb}
use Rattle.answer.specs.First.{first, Numbered, first-none, first_stops, first_goes}
use Rattle.rtp.specs.Rtp.{rtp_header_size}
use Rattle.rtp.specs.Fec.{parity_header_size, timestamp_recovery, length_recovery}
use Rattle.rtp.specs.Faults.{media_tests, parity_tests}
use Rattle.window.specs.declared.Window.{Window}
use Rattle.window.specs.Store.{Store}
use Rattle.calls.specs.Call.{standing_tests, media_offer_tests, parity_offer_tests, refused, settled, begun, offered_media, offered_parity}
use Rattle.calls.specs.Accept.{accept_media, accept_parity, recovery_of}
use Rattle.calls.proofs.Standing.{standing-stops, standing-goes}

-- the rest of a datagram behind its headers
pub rest-is : (h : ℕ) (g : List ℕ) → take (length g - h) (drop h g) ≡ drop h g
rest-is h g = take_all (length g - h) (drop h g) (omega (arith, length-drop h g))

-- it is the same as a kept payload of its length exactly if both are with zeros up to p
pub rest-same : (h p at : ℕ) (part g : List ℕ) → Fitting h p g → at + p ≤ length part
    → same (padded p (take (length g - h) (drop at part))) (padded p (drop h g)) ≡ same (take (length g - h) (drop at part)) (take (length g - h) (drop h g))
rest-same h p at part g f e =
    let a : length (take (length g - h) (drop at part)) ≡ length g - h = length-take-le (length g - h) (drop at part) (simp length-drop (omega (arith, f.1))) in
    same-padded p (take (length g - h) (drop at part)) (drop h g) (a ∙ sym (length-drop h g)) (omega (arith, a, f.1))
    ∙ ap (same (take (length g - h) (drop at part))) (sym (rest-is h g))

module _ (w : Window) (s : Store) (ts us : List (ℕ × Bool)) (n : Numbered ts) (z : ℕ) (e : z ≡ first (standing_tests w s 0 0)) where
  pub standing-refuses : (z ≡ 0 → ⊥) → z ≡ first (standing_tests w s 0 0 ++ ts ++ us)
  standing-refuses h = standing-stops w s 0 0 z (ts ++ us) e h

  module _ (o : z ≡ 0) where
    pub datagram-refuses : (r : ℕ) → r ≡ first ts → (r ≡ 0 → ⊥) → r ≡ first (standing_tests w s 0 0 ++ ts ++ us)
    datagram-refuses r f h = standing-goes w s 0 0 z r (ts ++ us) e o (f ∙ first_stops ts us (λ q. h (f ∙ q)))

    pub place_decides : (y r : ℕ) → y ≡ first ts → y ≡ 0 → r ≡ first us → r ≡ first (standing_tests w s 0 0 ++ ts ++ us)
    place_decides y r f q h = standing-goes w s 0 0 z r (ts ++ us) e o (h ∙ first_goes ts us n (sym f ∙ q))

pub media-numbered : (p : ℕ) (g : List ℕ) → Numbered (media_tests p g)
media-numbered p g = (tt, (tt, (tt, (tt, tt))))

pub parity-numbered : (stream l d p : ℕ) (g : List ℕ) → Numbered (parity_tests stream l d p g)
parity-numbered stream l d p g = (tt, (tt, (tt, (tt, (tt, (tt, (tt, tt)))))))

pub media-long : (p : ℕ) (g : List ℕ) (y : ℕ) → y ≡ first (media_tests p g) → y ≡ 0 → Fitting rtp_header_size p g
media-long p g y f q =
    let n = first-none (media_tests p g) (media-numbered p g) (sym f ∙ q) in
    let a = ltb-false (length g) rtp_header_size n.0 in
    let b = whole-high p p (length g - rtp_header_size) (not-false _ n.1.1.1.0) in
    (a, omega arith)

pub parity-long : (stream l d p : ℕ) (g : List ℕ) (y : ℕ) → y ≡ first (parity_tests stream l d p g) → y ≡ 0 → Fitting parity_header_size p g
parity-long stream l d p g y f q =
    let n = first-none (parity_tests stream l d p g) (parity-numbered stream l d p g) (sym f ∙ q) in
    let a = ltb-false (length g) parity_header_size n.0 in
    let b = whole-high p p (length g - parity_header_size) (not-false _ n.1.1.1.0) in
    (a, omega arith)

-- ---- the two ways through an offer
module _ (w : Window) (g : List ℕ) (s : Store) where
  pub media-refused : (r : ℕ) → r ≡ first (media_offer_tests w g s) → (r ≡ 0 → ⊥) → refused r w s ≡ offered_media w g s
  unfolding offered_media
  media-refused r e h = rw (← e, ne_eqb r 0 h)

  pub media-taken : 0 ≡ first (media_offer_tests w g s) → settled (accept_media g (begun w s)) ≡ offered_media w g s
  unfolding offered_media
  media-taken e = rw (sym e)

  pub parity-refused : (stream r : ℕ) → r ≡ first (parity_offer_tests w stream g s) → (r ≡ 0 → ⊥) → refused r w s ≡ offered_parity stream w g s
  unfolding offered_parity
  parity-refused stream r e h = rw (← e, ne_eqb r 0 h)

  pub parity-taken : (stream : ℕ) → 0 ≡ first (parity_offer_tests w stream g s) → settled (accept_parity stream g (begun w s)) ≡ offered_parity stream w g s
  unfolding offered_parity
  parity-taken stream e = rw (sym e)

-- what a parity datagram carries, by its parts
pub carried_is : (p : ℕ) (g : List ℕ) (t n : ℕ) (payload : List ℕ) → t ≡ timestamp_recovery g → n ≡ length_recovery g → payload ≡ drop parity_header_size g
    → record { content = record { timestamp = t; length = n; payload = padded p payload }; size = length payload } ≡ recovery_of p g
carried_is p g t n payload et en ep = rw (et, en, ep)

-- the rest of a datagram is as long as is left of it
pub rest-long : (h : ℕ) (g : List ℕ) → length (take (length g - h) (drop h g)) ≡ length g - h
rest-long h g = ap length (rest-is h g) ∙ length-drop h g

-- a part from a place on, as long as the rest of a datagram
pub rest-part : (h at : ℕ) (g : List ℕ) → at + length (take (length g - h) (drop h g)) - at ≡ length g - h
rest-part h at g = omega (arith, rest-long h g)

-- a part of p elements from a place on
pub part-long : (l : List ℕ) (at p : ℕ) → at + p ≤ length l → length (take (at + p - at) (drop at l)) ≡ p
part-long l at p b =
    let k : at + p - at ≡ p = omega arith in
    rw k (length-take-le p (drop at l) (omega (arith, length-drop at l)))

-- the rest of a datagram laid over such a part
pub laid : (l g : List ℕ) (h at p : ℕ) (ys : List ℕ) → at + p ≤ length l → ys ≡ padded (length (take (at + p - at) (drop at l))) (take (length g - h) (drop h g))
    → put_mid at (at + p - at) l ys ≡ paste l at (padded p (take (length g - h) (drop h g))) p
laid l g h at p ys b e =
    let k : at + p - at ≡ p = omega arith in
    put_mid-paste at (at + p - at) l ys (padded p (take (length g - h) (drop h g))) p (e ∙ ap (λ (n : ℕ). padded n (take (length g - h) (drop h g))) (part-long l at p b)) (sym k) (sym (length-padded p (take (length g - h) (drop h g))))
