-- The ways through `read_out` and `wrote_parity`, each from what the code finds there. Assumes nothing.
use mathlib.Core.Path.{◌≡◌, refl, sym, ap, ap₂, ◌∙◌}
use mathlib.Core.Bool.{Bool, true, not}
use mathlib.Core.List.{List, [], ◌∷◌, ◌++◌, map}
use Prim.Native.Nat.{ℕ, ◌+◌, ◌*◌, ◌<◌, ◌≤◌}
use native.Mathlib.Omega.{arith}
use lib.Dec.{ltb}
use lib.ListN.{length, get_or, take, drop, length-drop}
use lib.Seq.{paste, sets}
use borrow.Author.Tests.{lt-ltb, le-ltb, eq-eqb, ne_eqb, not-false}
use Rattle.answer.specs.declared.Answer.TheVariants.{Done, Refused}
use Rattle.answer.specs.First.{first, first_hit, first_past, first-end, first-none}
use Rattle.xor.specs.Xor.{xor_payloads, padded}
use Rattle.rtp.specs.Rtp.{rtp_header_size, media_type, parity_type, rtp_header}
use Rattle.rtp.specs.Fec.{parity_header_size, fec_header}
use Rattle.parity.specs.Own.{length_own, length-sum}
use Rattle.window.specs.declared.Record.{Record}
use Rattle.window.specs.declared.Sizes.{Sizes}
use Rattle.window.specs.declared.StoreView.{StoreView}
use Rattle.window.specs.declared.Window.{Window}
use Rattle.window.specs.Store.{Store, viewed, timestamp_at, length_at, payload_at}
use Rattle.window.specs.Group.{position, group, inside, is_missing, present}
use Rattle.calls.specs.Content.{content_at, longest, number_over}
use Rattle.calls.specs.Datagram.{media_packet, Outer}
use Rattle.calls.specs.Call.{Written, standing_tests, over, read_tests, read_out, write_tests, parity_of, wrote_parity}
use Rattle.calls.proofs.Standing.{standing-known, standing-stops, standing-goes}
use Rattle.group.proofs.Rows.{row_ends}
use Rattle.group.proofs.Defined.{all-present, summed}
use Rattle.table.specs.declared.Row.{Row}
use Rattle.table.specs.View.{scatter}
use Rattle.table.specs.Apart.{length-scatter}
use Rattle.order.specs.Stands.{Taken, Stands, Stood}
use Rattle.read.specs.Tests.{sizes_in, group_tests}
use Rattle.xor.specs.Laid.{laid}
use Rattle.read.proofs.Lay.{front}

-- a call that is refused leaves the output
abbrev pub no : ℕ → Window → List ℕ → Written
no r w out = record { answer = Refused r; window = w; out = out }

-- and one that is done has written to it
abbrev pub yes : ℕ → Window → List ℕ → Written
yes k w out = record { answer = Done k 0; window = w; out = out }

-- ---- refusals 1 to 5

-- whether the output is too short, as the code finds it
pub short-is : {w : Window} {z : Sizes} {lengths marks : List ℕ} {hs hs' : List Row} {r : ℕ} (a b : Bool) → a ≡ b → Stood w z a lengths marks hs hs' r → Stood w z b lengths marks hs hs' r
short-is a b e s = rw e at s

-- what the code finds is what they say of every table
pub said : (w : Window) (v : StoreView) (len : ℕ) (hs hs' : List Row) (room need r : ℕ) → Stood w (sizes_in v len) (ltb room need) v.lengths.now v.marks.now hs hs' r
    → (t : List Record) → length t ≡ len → Taken t w.k hs → r ≡ first (standing_tests w (viewed v (scatter hs t)) room need)
said w v len hs hs' room need r s t e k = s.is v.media.now v.timestamps.now v.parity.now t (rw (length-scatter hs t, e)) k

-- behind them: what a position holds is no longer than P
pub held_low : {w : Window} {z : Sizes} {short : Bool} {hs : List Row} (lengths marks : List ℕ) → Stands w z short lengths marks hs → (i : ℕ) → i < w.n → (get_or marks i 0 ≡ 0 → ⊥) → (size : ℕ) → size ≡ get_or lengths i 0 → size ≤ w.p
held_low lengths marks s i below held size e = rw e (s.lengths-low i below (ne_eqb (get_or marks i 0) 0 held))

-- ---- reading out
module _ (w : Window) (number : ℕ) (s : Store) (out : List ℕ) where
  -- a test applies
  read_no : (r : ℕ) → r ≡ first (read_tests w number s out) → (r ≡ 0 → ⊥) → no r w out ≡ read_out w number s out
  unfolding read_out
  read_no r e h = rw (← e, ne_eqb r 0 h)

  -- one of refusals 1 to 5
  pub read-stops : (r : ℕ) → r ≡ first (standing_tests w s (length out) (rtp_header_size + w.p)) → (r ≡ 0 → ⊥) → no r w out ≡ read_out w number s out
  read-stops r e h = read_no r (standing-stops w s (length out) (rtp_header_size + w.p) r ((13, not (ltb (position w number) w.n)) ∷ (17, is_missing s.marks (position w number)) ∷ []) e h) h

  module _ (r : ℕ) (z : r ≡ 0) (i : ℕ) (ei : i ≡ position w number) (e : r ≡ first (standing_tests w s (length out) (rtp_header_size + w.p))) where
    -- the call's own tests decide
    read_goes : (k : ℕ) → k ≡ first ((13, not (ltb i w.n)) ∷ (17, is_missing s.marks i) ∷ []) → k ≡ first (read_tests w number s out)
    read_goes k h = standing-goes w s (length out) (rtp_header_size + w.p) r k ((13, not (ltb (position w number) w.n)) ∷ (17, is_missing s.marks (position w number)) ∷ []) e z (rw ei at h)

    -- refusal 13
    pub read-outside : w.n ≤ i → no 13 w out ≡ read_out w number s out
    read-outside h = read_no 13 (read_goes 13 (first_hit 13 (not (ltb i w.n)) _ (ap not (le-ltb i w.n h)))) (λ q. omega arith)

    module _ (below : i < w.n) where
      -- the last test decides
      inner : (k : ℕ) → k ≡ first ((17, is_missing s.marks i) ∷ []) → k ≡ first (read_tests w number s out)
      inner k h = read_goes k (first_past k 13 (not (ltb i w.n)) _ (ap not (lt-ltb i w.n below)) h)

      -- refusal 17
      pub read-missing : get_or s.marks i 0 ≡ 0 → no 17 w out ≡ read_out w number s out
      read-missing h = read_no 17 (inner 17 (first_hit 17 (is_missing s.marks i) [] (eq-eqb (get_or s.marks i 0) 0 h))) (λ q. omega arith)

      -- no test applies
      read-yes : 0 ≡ first (read_tests w number s out) → (size : ℕ) (datagram : List ℕ) → size ≡ length_at s (position w number) → datagram ≡ media_packet number w.ssrc (content_at w s (position w number))
          → yes (rtp_header_size + size) w (over datagram out) ≡ read_out w number s out
      unfolding read_out
      read-yes q size datagram en ed = rw (← q, en, ed)

      -- the payload copied behind the header, then the header written
      pub read_done : (get_or s.marks i 0 ≡ 0 → ⊥) → (size : ℕ) → size ≡ length_at s i → size ≤ w.p → (one two : List ℕ) → one ≡ paste out rtp_header_size (drop (i * w.p) s.media) size
          → two ≡ sets one 0 (rtp_header media_type number (timestamp_at s i) w.ssrc) → yes (rtp_header_size + size) w two ≡ read_out w number s out
      read_done h size en low one two e1 e2 =
          let g = standing-known w s (length out) (rtp_header_size + w.p) r e z in
          let ends = row_ends i w.n w.p (length s.media) below g.sized.media-long in
          let y : List ℕ = drop (i * w.p) s.media in
          let long : size ≤ length y = simp length-drop (omega arith) in
          let head : List ℕ = rtp_header media_type number (timestamp_at s i) w.ssrc in
          let is : head ++ take size y ≡ media_packet number w.ssrc (content_at w s (position w number)) =
          ap (λ (l : List ℕ). head ++ l) (front size w.p y low long ∙ ap (λ (n : ℕ). take n (padded w.p (take n y))) en) ∙ ap (λ (j : ℕ). media_packet number w.ssrc (content_at w s j)) ei in
          ap (λ (t : List ℕ). yes (rtp_header_size + size) w t) (e2 ∙ ap (λ (t : List ℕ). sets t 0 head) e1 ∙ laid head y out rtp_header_size size refl (omega (arith, g.fits)) long)
          ∙ read-yes (inner 0 (first_past 0 17 (is_missing s.marks i) [] (ne_eqb (get_or s.marks i 0) 0 h) first-end)) size (head ++ take size y) (en ∙ ap (length_at s) ei) is

-- ---- writing parity

-- where no test of a group applies: it lies in the window
pub lies-inside : (w : Window) (stream snbase : ℕ) (marks : List ℕ) (k : ℕ) → k ≡ first (group_tests w stream snbase marks) → k ≡ 0 → inside w stream snbase ≡ true
lies-inside w stream snbase marks k f y = not-false (inside w stream snbase) (first-none (group_tests w stream snbase marks) (tt, (tt, (tt, tt))) (sym f ∙ y)).1.0

-- and all of it is there
whole : (w : Window) (stream snbase : ℕ) (marks : List ℕ) (k : ℕ) → k ≡ first (group_tests w stream snbase marks) → k ≡ 0 → present marks (group w stream snbase) ≡ group w stream snbase
whole w stream snbase marks k f y = all-present marks (group w stream snbase) (first-none (group_tests w stream snbase marks) (tt, (tt, (tt, tt))) (sym f ∙ y)).1.1.0

module _ (stream : ℕ) (w : Window) (snbase : ℕ) (o : Outer) (s : Store) (out : List ℕ) where
  -- a test applies
  write_no : (r : ℕ) → r ≡ first (write_tests w stream snbase s out) → (r ≡ 0 → ⊥) → no r w out ≡ wrote_parity stream w snbase o s out
  unfolding wrote_parity
  write_no r e h = rw (← e, ne_eqb r 0 h)

  -- one of refusals 1 to 5
  pub write_stops : (r : ℕ) → r ≡ first (standing_tests w s (length out) (parity_header_size + w.p)) → (r ≡ 0 → ⊥) → no r w out ≡ wrote_parity stream w snbase o s out
  write_stops r e h = write_no r (standing-stops w s (length out) (parity_header_size + w.p) r (group_tests w stream snbase s.marks) e h) h

  module _ (r : ℕ) (z : r ≡ 0) (k : ℕ) (f : k ≡ first (group_tests w stream snbase s.marks)) (e : r ≡ first (standing_tests w s (length out) (parity_header_size + w.p))) where
    -- the call's own tests decide
    write_goes : k ≡ first (write_tests w stream snbase s out)
    write_goes = standing-goes w s (length out) (parity_header_size + w.p) r k (group_tests w stream snbase s.marks) e z f

    -- one of refusals 12, 13 and 17
    pub group-stops : (k ≡ 0 → ⊥) → no k w out ≡ wrote_parity stream w snbase o s out
    group-stops h = write_no k write_goes h

    module _ (y : k ≡ 0) where
      -- no test applies
      write_yes : (size : ℕ) (datagram : List ℕ) → size ≡ longest (map (length_at s) (group w stream snbase)) → datagram ≡ parity_of w o stream snbase s
          → yes (parity_header_size + size) w (over datagram out) ≡ wrote_parity stream w snbase o s out
      unfolding wrote_parity
      write_yes size datagram ez ed = rw (← write_goes, y, ez, ed)

      -- the exclusive-or of the payloads laid behind the headers, as long as the longest of them, then the headers written
      pub write_done : (stamps lengths size : ℕ) (one two : List ℕ)
          → stamps ≡ number_over s.timestamps s.marks (group w stream snbase) 0
          → lengths ≡ number_over s.lengths s.marks (group w stream snbase) 0
          → size ≡ longest (map (length_at s) (present s.marks (group w stream snbase))) → size ≤ w.p
          → one ≡ paste out parity_header_size (xor_payloads w.p (map (payload_at w s) (present s.marks (group w stream snbase)))) size
          → two ≡ sets one 0 (rtp_header parity_type o.sequence o.timestamp o.ssrc ++ fec_header stream w.l w.d snbase lengths stamps)
          → yes (parity_header_size + size) w two ≡ wrote_parity stream w snbase o s out
      write_done stamps lengths size one two es el ez low e1 e2 =
          let g = standing-known w s (length out) (parity_header_size + w.p) r e z in
          let these : List ℕ = group w stream snbase in
          let all = whole w stream snbase s.marks k f y in
          let x : List ℕ → List ℕ = λ l. xor_payloads w.p (map (payload_at w s) l) in
          let head : (lengths stamps : ℕ) → List ℕ = λ n t. rtp_header parity_type o.sequence o.timestamp o.ssrc ++ fec_header stream w.l w.d snbase n t in
          let ex : length (x these) ≡ w.p = length-sum w.p (payload_at w s) (length_own w.p w.p s.media s.lengths) these in
          let ez' : size ≡ longest (map (length_at s) these) = ez ∙ ap (λ (l : List ℕ). longest (map (length_at s) l)) all in
          let is : head lengths stamps ++ take size (x these) ≡ parity_of w o stream snbase s =
          ap (λ (n : ℕ). head lengths stamps ++ take n (x these)) ez'
          ∙ ap₂ (λ (n t : ℕ). head n t ++ take (longest (map (length_at s) these)) (x these)) (el ∙ summed s.lengths s.marks these all) (es ∙ summed s.timestamps s.marks these all) in
          ap (λ (t : List ℕ). yes (parity_header_size + size) w t)
          (e2
          ∙ ap (λ (t : List ℕ). sets t 0 (head lengths stamps)) (e1 ∙ ap (λ (l : List ℕ). paste out parity_header_size (x l) size) all)
          ∙ laid (head lengths stamps) (x these) out parity_header_size size refl (omega (arith, g.fits)) (omega arith))
          ∙ write_yes size (head lengths stamps ++ take size (x these)) ez' is
