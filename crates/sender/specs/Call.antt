-- A sender's calls (02, request 4): from the sender value, the media datagram and what is lent to answer, next sender value and every lent byte.
use Rattle.std.specs.Prelude.{Bool, cond, not, ◌||◌, List, [], ◌∷◌, ◌++◌, ℕ, ◌+◌, ◌*◌, ◌-◌, ◌%◌, ◌^◌, eqb, leb, ltb, length, take}
use Rattle.std.proofs.Math.Option.{Option, none, some}
use Rattle.answer.specs.First.{first}
use Rattle.sequence.specs.Lists.{all}
use Rattle.sequence.specs.Wrap.{ahead, number_at}
use Rattle.rtp.specs.Rtp.{sequence_number}
use Rattle.rtp.specs.Fec.{parity_header_size, column, row}
use Rattle.rtp.specs.Faults.{media_tests}
use Rattle.window.specs.declared.Window.{Window}
use Rattle.window.specs.Limits.{width, bad_profile, bad_payload}
use Rattle.calls.specs.Datagram as datagram
use Rattle.calls.specs.Call.{asked, zeroed, over}
use Rattle.schedule.specs.declared.Arrangement.{Arrangement}
use Rattle.schedule.specs.Schedule.{Cycle, named, start, column_due, row_due, taking, slot, row_slot, matrices, onward}
use Rattle.sender.specs.declared.Sender.{Sender}
use Rattle.sender.specs.declared.Outer.{Outer}
use Rattle.sender.specs.declared.Sent.{Sent}
use Rattle.sender.specs.Sums.{Room, slots, sum_at, alone, join}

-- ---- the sender value

-- its profile and payload size, as a window value has them
abbrev pub profile : Sender → Window
profile s = asked s.first 0 s.l s.d s.p 0 0

-- its arrangement
abbrev pub arrangement_of : Sender → Arrangement
arrangement_of s = named s.arrangement

-- the number of the next packet
abbrev pub next_number : Sender → ℕ
next_number s = number_at width s.first s.taken

-- the sender value after a packet
abbrev pub next_sender : Sender → Sender
next_sender s =
    record { first = s.first; taken = (s.taken + 1) % 2 ^ width; arrangement = s.arrangement; l = s.l; d = s.d; p = s.p; at = onward (s.l * s.d) s.at }

-- the sender value of a refused opening: zeros, which every later call refuses with 1
abbrev pub no_sender : Sender
no_sender = record { first = 0; taken = 0; arrangement = 0; l = 0; d = 0; p = 0; at = 0 }

-- ---- refusals

-- 4: a part of the room is shorter than the sender needs
abbrev pub short_room : Sender → Room → Bool
short_room s r =
    ltb (length r.payloads) (slots s.l * s.p)
    || ltb (length r.timestamps) (slots s.l)
    || ltb (length r.lengths) (slots s.l)
    || ltb (length r.longest) (slots s.l)

-- 4: an output is shorter than the longest parity packet
abbrev pub short_output : Sender → (room : ℕ) → Bool
short_output s room = ltb room (parity_header_size + s.p)

-- 5: the counter is past the profile, or a longest length past P
abbrev pub astray : Sender → (longest : List ℕ) → Bool
astray s longest = not (ltb s.at (matrices * (s.l * s.d))) || not (all (λ n. leb n s.p) (take (slots s.l) longest))

-- what a made-up sender value meets first: 1 and 2; 3 is of windows
abbrev pub set_up_tests : Sender → List (ℕ × Bool)
set_up_tests s = (1, bad_profile (profile s)) ∷ (2, bad_payload (profile s)) ∷ []

-- the tests of an opening: 1, 2 and 4
abbrev pub open_tests : Sender → Room → List (ℕ × Bool)
open_tests s r = set_up_tests s ++ ((4, short_room s r) ∷ [])

-- what an offer meets before its datagram is looked at: 1, 2, 4 and 5
abbrev pub standing_tests : Sender → Room → (row column : ℕ) → List (ℕ × Bool)
standing_tests s r row column = set_up_tests s ++ ((4, short_room s r || short_output s row || short_output s column) ∷ (5, astray s r.longest) ∷ [])

-- 13: another number than the next
abbrev pub number_tests : Sender → (datagram : List ℕ) → List (ℕ × Bool)
number_tests s g = (13, not (eqb (sequence_number g) (next_number s))) ∷ []

-- the tests of an offer: 1 to 9 and 13
abbrev pub offer_tests : Sender → (datagram : List ℕ) → Room → (row column : ℕ) → List (ℕ × Bool)
offer_tests s g r row column = standing_tests s r row column ++ media_tests s.p g ++ number_tests s g

-- ---- opening

-- the slots that the sender needs set to zero
abbrev pub cleared : Sender → Room → Room
cleared s r =
    record {
      payloads = zeroed (slots s.l * s.p) r.payloads;
      timestamps = zeroed (slots s.l) r.timestamps;
      lengths = zeroed (slots s.l) r.lengths;
      longest = zeroed (slots s.l) r.longest;
    }

-- what opening gives back, and leaves in the lent room
pub record Opened : Type 0 where
  pub sent : Sent
  pub room : Room

-- an opening: the room cleared and the sender value, or the refusal
unfoldable pub opened : Sender → Room → Opened
opened s r =
    cond (eqb (first (open_tests s r)) 0) (record { sent = record { number = 0; row = 0; column = 0; sender = s }; room = cleared s r })
    (record { sent = record { number = first (open_tests s r); row = 0; column = 0; sender = no_sender }; room = r })

-- the sender that a card asks for: nothing taken yet
abbrev pub fresh : (first arrangement l d p : ℕ) → Sender
fresh first arrangement l d p = record { first = first; taken = 0; arrangement = arrangement; l = l; d = d; p = p; at = 0 }

-- ---- an offer

-- what a parity packet takes from the caller, as the base has it
abbrev pub outer : Outer → datagram.Outer
outer o = record { sequence = o.sequence; timestamp = o.timestamp; ssrc = o.ssrc }

-- the parity packet of a group that starts so many packets before the next one, of the sum in a slot, with the caller's numbers
abbrev pub packet_of : Sender → Outer → (stream back slot : ℕ) → Room → List ℕ
packet_of s o stream back slot r = datagram.parity_packet (outer o) stream s.l s.d (ahead width back (next_number s)) (sum_at s.p r slot)

-- what an offer leaves in an output, and how many bytes it wrote there
pub record Filled : Type 0 where
  pub bytes : ℕ
  pub out : List ℕ

-- nothing goes out
abbrev pub unused : (out : List ℕ) → Filled
unused out = record { bytes = 0; out = out }

-- a parity packet goes out: as many bytes as its headers and its payload have
abbrev pub packet : Sender → Outer → (stream back slot : ℕ) → Room → (out : List ℕ) → Filled
packet s o stream back slot r out = record { bytes = parity_header_size + (sum_at s.p r slot).size; out = over (packet_of s o stream back slot r) out }

-- the column that is due, if there is one
abbrev pub column_by : Sender → Outer → Room → (out : List ℕ) → Option Cycle → Filled
column_by s o r out none = unused out
column_by s o r out (some c) = packet s o column (s.at - start (arrangement_of s) s.l s.d c) (slot s.l c) r out

-- what goes out on the column stream with the next packet, before that comes into the sums
unfoldable pub column_out : Sender → Outer → Room → (out : List ℕ) → Filled
column_out s o r out = column_by s o r out (column_due (arrangement_of s) s.l s.d s.at)

-- the row that is due, if there is one
abbrev pub row_by : Sender → Outer → Room → (out : List ℕ) → Option ℕ → Filled
row_by s o r out none = unused out
row_by s o r out (some b) = packet s o row (s.at - b) (row_slot s.l) r out

-- what goes out on the row stream with the next packet, which has come into the sums
unfoldable pub row_out : Sender → Outer → Room → (out : List ℕ) → Filled
row_out s o r out = row_by s o r out (row_due s.l s.at)

-- the next packet comes into the sum of its row and into that of its column
unfoldable pub absorbed : Sender → (datagram : List ℕ) → Room → Room
absorbed s g r =
    join s.p
    (join s.p r (row_slot s.l) (eqb (s.at % s.l) 0) (alone s.p g))
    (slot s.l (taking (arrangement_of s) s.l s.d s.at))
    (eqb (start (arrangement_of s) s.l s.d (taking (arrangement_of s) s.l s.d s.at)) s.at) (alone s.p g)

-- what an offer gives back, and leaves in the lent room and in the outputs
pub record Outcome : Type 0 where
  pub sent : Sent
  pub room : Room
  pub row : List ℕ
  pub column : List ℕ

-- a packet that is taken: a column that is due goes out, the packet comes into the sums, a row that it ends goes out
abbrev pub took : Sender → (datagram : List ℕ) → (row column : Outer) → Room → (row_out column_out : List ℕ) → Outcome
took s g row column r outRow outColumn =
    record {
      sent = record { number = 0; row = (row_out s row (absorbed s g r) outRow).bytes; column = (column_out s column r outColumn).bytes; sender = next_sender s };
      room = absorbed s g r;
      row = (row_out s row (absorbed s g r) outRow).out;
      column = (column_out s column r outColumn).out;
    }

-- a refusal: its number, the same sender value, and all that was lent as it was
abbrev pub refused : (number : ℕ) → Sender → Room → (row_out column_out : List ℕ) → Outcome
refused number s r outRow outColumn = record { sent = record { number = number; row = 0; column = 0; sender = s }; room = r; row = outRow; column = outColumn }

-- an offer of a media datagram: taken, or refused
unfoldable pub offered : Sender → (datagram : List ℕ) → (row column : Outer) → Room → (row_out column_out : List ℕ) → Outcome
offered s g row column r outRow outColumn =
    cond (eqb (first (offer_tests s g r (length outRow) (length outColumn))) 0) (took s g row column r outRow outColumn)
    (refused (first (offer_tests s g r (length outRow) (length outColumn))) s r outRow outColumn)
