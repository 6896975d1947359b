-- What is known where no refusal of a call applied, by name: one record a call. A refusal more is a field more, and moves no other.
use Rattle.std.specs.Prelude.{◌≡◌, refl, Bool, true, false, not, ◌&&◌, ◌||◌, List, [], ◌∷◌, ◌++◌, map, ℕ, ◌+◌, ◌-◌, ◌<◌, length, drop, eqb, leb, ltb}
use Rattle.std.proofs.Common.{sym, ap, ◌∙◌, length-drop, ltb-true, lt-ltb, le-leb}
use Rattle.std.proofs.Math.Bool.{and-false}
use Rattle.std.proofs.lemmas.Bool.{false≢true, not-false}
use Rattle.answer.specs.First.{first, None, first_past, first-end, first-append, first-none, first-front, first_back}
use Rattle.sequence.specs.Lists.{up_to, any}
use Rattle.sequence.proofs.Lists.{any_false, false-any, or_split}
use Rattle.rtp.specs.Rtp.{rtp_header_size, sequence_number}
use Rattle.rtp.specs.Fec.{parity_header_size, snbase, d_bit, offset, na, offset_of, na_of}
use Rattle.rtp.specs.Faults.{no_row, media_tests, parity_tests}
use Rattle.rtp.specs.Length.{good_length}
use Rattle.window.specs.declared.Window.{Window}
use Rattle.window.specs.Limits.{least_missing, rows, parity_room}
use Rattle.window.specs.Store.{Store}
use Rattle.window.specs.Group.{position, group, inside, is_missing, missing}
use Rattle.calls.specs.Call.{standing_tests, media_place_tests, media_offer_tests, holds, holds_same, contradicts, parity_place_tests, parity_offer_tests, read_place_tests, read_tests, write_place_tests, write_tests}
use Rattle.calls.proofs.Standing.{standing-good}
use Rattle.calls.specs.Passed.{MediaPassed, ParityPassed, ReadPassed, WritePassed}

-- a parity offer meets 1 to 15 in their order, then 18, then 16 (02, request 6)
pub parity-order : (w : Window) (stream : ℕ) (g : List ℕ) (s : Store)
    → map (λ (t : ℕ × Bool). t.0) (parity_offer_tests w stream g s) ≡ 1 ∷ 2 ∷ 3 ∷ 4 ∷ 5 ∷ 6 ∷ 7 ∷ 8 ∷ 9 ∷ 10 ∷ 11 ∷ 12 ∷ 13 ∷ 14 ∷ 15 ∷ 18 ∷ 16 ∷ []
parity-order w stream g s = refl

-- ---- from "the first refusal is 0" to the records
-- no test of two lists applies, where none of each does
none-join : (ts us : List (ℕ × Bool)) → None ts → None us → None (ts ++ us)
none-join [] us m n = n
none-join ((k, t) ∷ ts) us m n = (m.0, none-join ts us m.1 n)

-- where none applies, the first is 0
pub none_first : (ts : List (ℕ × Bool)) → None ts → first ts ≡ 0
none_first [] n = sym first-end
none_first ((k, t) ∷ ts) n = sym (first_past 0 k t ts n.0 (sym (none_first ts n.1)))

-- a payload part of good length
payload-size : (headers p : ℕ) (g : List ℕ) → not (good_length p (length g - headers)) ≡ false → good_length p (length (drop headers g)) ≡ true
payload-size headers p g b = rw (length-drop headers g) (not-false (good_length p (length g - headers)) b)

-- of two tests joined by "and" that fail, the second fails where the first holds
not-both : (a b : Bool) → (a && b) ≡ false → a ≡ true → b ≡ false
not-both true b e h = e
not-both false b e h = absurd (false≢true h)

pub media-passed : (w : Window) (g : List ℕ) (s : Store) → first (media_offer_tests w g s) ≡ 0 → MediaPassed w g s
media-passed w g s e =
    let front = first-front (standing_tests w s 0 0 ++ media_tests w.p g) (media_place_tests w g s) e in
    let wire = first-none (media_tests w.p g) (tt, (tt, (tt, (tt, tt)))) (first_back (standing_tests w s 0 0) (media_tests w.p g) (tt, (tt, (tt, (tt, (tt, tt))))) front) in
    let place = first-none (media_place_tests w g s) (tt, (tt, (tt, tt)))
    (first_back (standing_tests w s 0 0 ++ media_tests w.p g) (media_place_tests w g s) (tt, (tt, (tt, (tt, (tt, (tt, (tt, (tt, (tt, tt))))))))) e) in
    record {
      standing = standing-good w s 0 0 (first-front (standing_tests w s 0 0) (media_tests w.p g) front);
      size = payload-size rtp_header_size w.p g wire.1.1.1.0;
      in_window = ltb-true (position w (sequence_number g)) w.n (not-false _ place.0);
      new = not-false _ place.1.1.0;
    }

pub parity-passed : (w : Window) (stream : ℕ) (g : List ℕ) (s : Store) → first (parity_offer_tests w stream g s) ≡ 0 → ParityPassed w stream g s
parity-passed w stream g s e =
    let tests = parity_tests stream w.l w.d w.p g in
    let front = first-front (standing_tests w s 0 0 ++ tests) (parity_place_tests w stream g s) e in
    let wire = first-none (parity_tests stream w.l w.d w.p g) (tt, (tt, (tt, (tt, (tt, (tt, (tt, tt)))))))
    (first_back (standing_tests w s 0 0) tests (tt, (tt, (tt, (tt, (tt, tt))))) front) in
    let place = first-none (parity_place_tests w stream g s) (tt, (tt, (tt, (tt, (tt, tt)))))
    (first_back (standing_tests w s 0 0 ++ tests) (parity_place_tests w stream g s) (tt, (tt, (tt, (tt, (tt, (tt, (tt, (tt, (tt, (tt, (tt, (tt, tt)))))))))))) e) in
    record {
      standing = standing-good w s 0 0 (first-front (standing_tests w s 0 0) tests front);
      size = payload-size parity_header_size w.p g wire.1.1.1.0;
      permitted = (or_split (not (eqb (d_bit g) stream) || not (eqb (offset g) (offset_of stream w.l)) || not (eqb (na g) (na_of stream w.l w.d))) (no_row stream w.l) wire.1.1.1.1.1.1.0).1;
      in_window = not-false (inside w stream (snbase g)) place.0;
      new = place.1.1.0;
      agrees = λ whole. not-false _ (not-both (not (any (is_missing s.marks) (group w stream (snbase g)))) _ place.1.1.1.0 (ap not whole));
      has_room = λ m. ltb-true w.in_use (parity_room w) (not-false (ltb w.in_use (parity_room w))
          (not-both (leb least_missing (length (missing s.marks (group w stream (snbase g))))) (not (ltb w.in_use (parity_room w))) place.1.1.1.1.0 (le-leb least_missing _ m)));
    }

pub read-passed : (w : Window) (number : ℕ) (s : Store) (out : List ℕ) → first (read_tests w number s out) ≡ 0 → ReadPassed w number s out
read-passed w number s out e =
    let stand = standing_tests w s (length out) (rtp_header_size + w.p) in
    let place = first-none (read_place_tests w number s) (tt, (tt, tt)) (first_back stand (read_place_tests w number s) (tt, (tt, (tt, (tt, (tt, tt))))) e) in
    record {
      standing = standing-good w s (length out) (rtp_header_size + w.p) (first-front stand (read_place_tests w number s) e);
      in_window = ltb-true (position w number) w.n (not-false _ place.0);
      present = place.1.0;
    }

pub write_passed : (w : Window) (stream b : ℕ) (s : Store) (out : List ℕ) → first (write_tests w stream b s out) ≡ 0 → WritePassed w stream b s out
write_passed w stream b s out e =
    let stand = standing_tests w s (length out) (parity_header_size + w.p) in
    let place = first-none (write_place_tests w stream b s) (tt, (tt, (tt, tt))) (first_back stand (write_place_tests w stream b s) (tt, (tt, (tt, (tt, (tt, tt))))) e) in
    record {
      standing = standing-good w s (length out) (parity_header_size + w.p) (first-front stand (write_place_tests w stream b s) e);
      permitted = place.0;
      in_window = not-false (inside w stream b) place.1.0;
      whole = place.1.1.0;
    }

-- ---- and back: a faultless datagram on a window and store that refusals 1 to 5 let pass
module _ (w : Window) (g : List ℕ) (s : Store) (stands : None (standing_tests w s 0 0)) where
  -- no refusal applies to media of a position of the window that is missing
  pub media-passes : None (media_tests w.p g) → position w (sequence_number g) < w.n → is_missing s.marks (position w (sequence_number g)) ≡ true → first (media_offer_tests w g s) ≡ 0
  media-passes faultless in_window new =
      first-append (standing_tests w s 0 0 ++ media_tests w.p g) (media_place_tests w g s) (none-join (standing_tests w s 0 0) (media_tests w.p g) stands faultless)
      ∙ none_first (media_place_tests w g s) (rw (lt-ltb (position w (sequence_number g)) w.n in_window), (rw new, (ap not new, tt)))

  -- none applies to parity of a group of the window that is not in hand and that it does not contradict, if there is room where it has to wait
  pub parity-passes : (stream : ℕ) → None (parity_tests stream w.l w.d w.p g) → inside w stream (snbase g) ≡ true → any (holds w s stream (snbase g)) (up_to (rows w)) ≡ false
      → contradicts w stream g s ≡ false → w.in_use < parity_room w → first (parity_offer_tests w stream g s) ≡ 0
  parity-passes stream faultless in_window new agrees has_room =
      first-append (standing_tests w s 0 0 ++ parity_tests stream w.l w.d w.p g) (parity_place_tests w stream g s)
      (none-join (standing_tests w s 0 0) (parity_tests stream w.l w.d w.p g) stands faultless)
      ∙ none_first (parity_place_tests w stream g s) (ap not in_window, (unlike, (new, (agrees, (rw (lt-ltb w.in_use (parity_room w) has_room) (and-false (leb least_missing (length (missing s.marks (group w stream (snbase g)))))), tt)))))
    where
      unlike : any (holds_same w s stream g) (up_to (rows w)) ≡ false
      unlike = false-any (holds_same w s stream g) (rows w) (λ r l. rw (any_false (holds w s stream (snbase g)) (rows w) new r l))
