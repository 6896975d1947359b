-- The calls: from the window value, the datagram and the lent store to answer, next window value and next store.
use Rattle.std.specs.Prelude.{Bool, cond, not, ◌&&◌, ◌||◌, List, [], ◌∷◌, ◌++◌, ℕ, ◌+◌, ◌*◌, eqb, leb, ltb, length, drop, replicate}
use Rattle.answer.specs.declared.Answer.{Answer}
use Rattle.answer.specs.declared.Answer.TheVariants.{Done, Refused}
use Rattle.answer.specs.First.{first}
use Rattle.sequence.specs.Lists.{up_to, any}
use Rattle.rtp.specs.Rtp.{rtp_header_size, sequence_number}
use Rattle.rtp.specs.Fec.{parity_header_size, column, row, snbase}
use Rattle.rtp.specs.Faults.{media_tests, parity_tests, no_row}
use Rattle.window.specs.declared.Record.{Record}
use Rattle.window.specs.declared.Window.{Window}
use Rattle.window.specs.Record.{blank}
use Rattle.window.specs.Limits.{least_missing, rows, parity_room, set_up_tests}
use Rattle.window.specs.Store.{Store, short_store, length_at, record_at}
use Rattle.window.specs.Group.{position, group, inside, is_missing, missing}
use Rattle.window.specs.Order.{is_in_use, disorder}
use Rattle.calls.specs.Datagram.{media_packet, Outer, parity_packet}
pub use Rattle.calls.specs.Content.{same, same_content, same_recovery, content_at}
use Rattle.calls.specs.Content.{recovery_at, recovery_over}
use Rattle.calls.specs.State.{State, scene}
use Rattle.calls.specs.Settle.{settle}
use Rattle.calls.specs.Accept.{content_of, recovery_of, accept_media, accept_parity}

-- what a call gives back, and leaves in the lent store
pub record Outcome : Type 0 where
  pub answer : Answer
  pub window : Window
  pub store : Store

-- what reading out or writing parity gives back, and leaves in the lent output
pub record Written : Type 0 where
  pub answer : Answer
  pub window : Window
  pub out : List ℕ

-- ---- opening (01, "Setting up a window")

-- the window value of a refused opening: zeros, which every later call refuses with 1
abbrev pub no_window : Window
no_window = record { base = 0; ssrc = 0; l = 0; d = 0; p = 0; n = 0; k = 0; present = 0; in_use = 0 }

-- the first n elements of a part set to zero, the rest as it was
abbrev pub zeroed : ℕ → List ℕ → List ℕ
zeroed n l = replicate n 0 ++ drop n l

-- the first k records of a table set free, the rest as it was
abbrev pub wiped : ℕ → List Record → List Record
wiped k t = replicate k blank ++ drop k t

-- all that the window needs is set to zero: every position missing, every record free
abbrev pub cleared : Window → Store → Store
cleared w s =
    record {
      media = zeroed (w.n * w.p) s.media;
      timestamps = zeroed w.n s.timestamps;
      lengths = zeroed w.n s.lengths;
      marks = zeroed w.n s.marks;
      parity = zeroed (rows w * w.p) s.parity;
      records = wiped (rows w) s.records;
    }

-- the window value that a card asks for: the counts are 0
abbrev pub asked : (base ssrc l d p n k : ℕ) → Window
asked base ssrc l d p n k = record { base = base; ssrc = ssrc; l = l; d = d; p = p; n = n; k = k; present = 0; in_use = 0 }

-- refusals 1 to 4
abbrev pub open_tests : Window → Store → List (ℕ × Bool)
open_tests w s = set_up_tests w ++ ((4, short_store w s) ∷ [])

-- an opening: the store cleared and the window value, or the refusal
unfoldable pub opened : Window → Store → Outcome
opened w s =
    cond (eqb (first (open_tests w s)) 0) (record { answer = Done 0 0; window = w; store = cleared w s })
    (record { answer = Refused (first (open_tests w s)); window = no_window; store = s })

-- ---- offers (01, "Taking a packet in")

-- refusals 1 to 5: what every later call meets, with the output that it was lent and the bytes that it has to write
abbrev pub standing_tests : Window → Store → (room need : ℕ) → List (ℕ × Bool)
standing_tests w s room need = set_up_tests w ++ ((4, short_store w s || ltb room need) ∷ (5, disorder w s) ∷ [])

-- 13 to 15 for a media datagram: its number lies outside; it is held, the same; it is held, with a difference
abbrev pub media_place_tests : Window → List ℕ → Store → List (ℕ × Bool)
media_place_tests w g s =
    (13, not (ltb (position w (sequence_number g)) w.n))
    ∷ (14, not (is_missing s.marks (position w (sequence_number g))) && same_content (content_at w s (position w (sequence_number g))) (content_of w.p g))
    ∷ (15, not (is_missing s.marks (position w (sequence_number g))))
    ∷ []

-- the tests of a media offer: 1 to 9 and 13 to 15
abbrev pub media_offer_tests : Window → List ℕ → Store → List (ℕ × Bool)
media_offer_tests w g s = standing_tests w s 0 0 ++ media_tests w.p g ++ media_place_tests w g s

-- a record in use holds this group
abbrev pub holds : Window → Store → (stream snbase : ℕ) → ℕ → Bool
holds w s stream snbase r = is_in_use w s r && (eqb (record_at s r).stream stream && eqb (record_at s r).snbase snbase)

-- and holds it with the same recovery
abbrev pub holds_same : Window → Store → (stream : ℕ) → List ℕ → ℕ → Bool
holds_same w s stream g r = holds w s stream (snbase g) r && same_recovery (recovery_at w s r) (recovery_of w.p g)

-- a parity datagram contradicts its group: all of that is present, and defines another timestamp, length or payload recovery, or a payload of
-- another length (02, request 6); another PT recovery has met 11
abbrev pub contradicts : Window → (stream : ℕ) → List ℕ → Store → Bool
contradicts w stream g s =
    not (any (is_missing s.marks) (group w stream (snbase g)))
    && not (same_recovery (recovery_over w s (group w stream (snbase g))) (recovery_of w.p g))

-- 13 to 15, 18 and 16 for a parity datagram: a member lies outside; it is in hand, the same; it is in hand, with a difference; it contradicts
-- its group; as many are missing as parity in hand waits for, and there is no room
abbrev pub parity_place_tests : Window → (stream : ℕ) → List ℕ → Store → List (ℕ × Bool)
parity_place_tests w stream g s =
    (13, not (inside w stream (snbase g)))
    ∷ (14, any (holds_same w s stream g) (up_to (rows w)))
    ∷ (15, any (holds w s stream (snbase g)) (up_to (rows w)))
    ∷ (18, contradicts w stream g s)
    ∷ (16, leb least_missing (length (missing s.marks (group w stream (snbase g)))) && not (ltb w.in_use (parity_room w)))
    ∷ []

-- the tests of a parity offer on the port of a stream: 1 to 16, and 18 before 16
abbrev pub parity_offer_tests : Window → (stream : ℕ) → List ℕ → Store → List (ℕ × Bool)
parity_offer_tests w stream g s = standing_tests w s 0 0 ++ parity_tests stream w.l w.d w.p g ++ parity_place_tests w stream g s

-- a refusal: its number, the same window value, the store as it was
abbrev pub refused : ℕ → Window → Store → Outcome
refused number w s = record { answer = Refused number; window = w; store = s }

-- an accepted packet is settled; the counts are of packets rebuilt and of parity packets found spoilt
abbrev pub settled : State → Outcome
settled x = record { answer = Done (settle x).rebuilt (settle x).spoilt; window = (settle x).window; store = (settle x).store }

-- a call begins: nothing rebuilt and nothing spoilt yet
abbrev pub begun : Window → Store → State
begun w s = scene w s 0 0

-- a media offer: accepted and settled, or refused
unfoldable pub offered_media : Window → List ℕ → Store → Outcome
offered_media w g s =
    cond (eqb (first (media_offer_tests w g s)) 0) (settled (accept_media g (begun w s))) (refused (first (media_offer_tests w g s)) w s)

-- a parity offer on the port of a stream: accepted and settled, or refused
unfoldable pub offered_parity : (stream : ℕ) → Window → List ℕ → Store → Outcome
offered_parity stream w g s =
    cond (eqb (first (parity_offer_tests w stream g s)) 0) (settled (accept_parity stream g (begun w s)))
    (refused (first (parity_offer_tests w stream g s)) w s)

-- on the column port
abbrev pub offered_column : Window → List ℕ → Store → Outcome
offered_column = offered_parity column

-- on the row port
abbrev pub offered_row : Window → List ℕ → Store → Outcome
offered_row = offered_parity row

-- ---- reading out and writing parity

-- a datagram at the front of an output, the rest as it was
abbrev pub over : List ℕ → List ℕ → List ℕ
over datagram out = datagram ++ drop (length datagram) out

-- 13 and 17 for reading out: the number lies outside; the packet is missing
abbrev pub read_place_tests : Window → (number : ℕ) → Store → List (ℕ × Bool)
read_place_tests w number s = (13, not (ltb (position w number) w.n)) ∷ (17, is_missing s.marks (position w number)) ∷ []

-- the tests of reading out: 1 to 5, 13 and 17
abbrev pub read_tests : Window → (number : ℕ) → Store → (out : List ℕ) → List (ℕ × Bool)
read_tests w number s out = standing_tests w s (length out) (rtp_header_size + w.p) ++ read_place_tests w number s

-- reading out a number: its datagram, or the refusal; store and window value stay (01, "Taking a packet in")
unfoldable pub read_out : Window → (number : ℕ) → Store → (out : List ℕ) → Written
read_out w number s out =
    cond (eqb (first (read_tests w number s out)) 0)
    (record {
      answer = Done (rtp_header_size + length_at s (position w number)) 0;
      window = w;
      out = over (media_packet number w.ssrc (content_at w s (position w number))) out;
    })
    (record { answer = Refused (first (read_tests w number s out)); window = w; out = out })

-- 12, 13 and 17 for writing parity: a row where rows are not permitted; a member lies outside; a member is missing
abbrev pub write_place_tests : Window → (stream snbase : ℕ) → Store → List (ℕ × Bool)
write_place_tests w stream snbase s =
    (12, no_row stream w.l) ∷ (13, not (inside w stream snbase)) ∷ (17, any (is_missing s.marks) (group w stream snbase)) ∷ []

-- the tests of writing parity: 1 to 5, 12, 13 and 17
abbrev pub write_tests : Window → (stream snbase : ℕ) → Store → (out : List ℕ) → List (ℕ × Bool)
write_tests w stream snbase s out = standing_tests w s (length out) (parity_header_size + w.p) ++ write_place_tests w stream snbase s

-- the parity packet of a group that is present
abbrev pub parity_of : Window → Outer → (stream snbase : ℕ) → Store → List ℕ
parity_of w o stream snbase s = parity_packet o stream w.l w.d snbase (recovery_over w s (group w stream snbase))

-- writing the parity of a group: its datagram, or the refusal; store and window value stay (01, "Taking a packet in")
unfoldable pub wrote_parity : (stream : ℕ) → Window → (snbase : ℕ) → Outer → Store → (out : List ℕ) → Written
wrote_parity stream w snbase o s out =
    cond (eqb (first (write_tests w stream snbase s out)) 0)
    (record {
      answer = Done (parity_header_size + (recovery_over w s (group w stream snbase)).size) 0;
      window = w;
      out = over (parity_of w o stream snbase s) out;
    })
    (record { answer = Refused (first (write_tests w stream snbase s out)); window = w; out = out })

-- of a column
abbrev pub wrote_column : Window → (snbase : ℕ) → Outer → Store → (out : List ℕ) → Written
wrote_column = wrote_parity column

-- of a row
abbrev pub wrote_row : Window → (snbase : ℕ) → Outer → Store → (out : List ℕ) → Written
wrote_row = wrote_parity row
