-- What a sender keeps of the groups on their way, in the lent room: in each slot the recovery of the members so far (02, request 4).
use Rattle.std.specs.Prelude.{Bool, cond, List, ℕ, ◌+◌, ◌*◌, max, length, get_or, take, drop, set}
use Rattle.std.proofs.Math.Seq.{paste}
use Rattle.rtp.specs.Rtp.{rtp_header_size}
use Rattle.calls.specs.Content.{Recovery, xor_content}
use Rattle.calls.specs.Accept.{content_of}
use Rattle.sender.specs.declared.Sums.{Sums}

-- the lent room: for each slot a payload of P bytes, and the exclusive-or of timestamps, that of lengths, and the longest length
pub record Room : Type 0 where
  pub payloads : List ℕ
  pub timestamps : List ℕ
  pub lengths : List ℕ
  pub longest : List ℕ

-- a room of its four parts
abbrev pub lent : (payloads timestamps lengths longest : List ℕ) → Room
lent payloads timestamps lengths longest = record { payloads = payloads; timestamps = timestamps; lengths = lengths; longest = longest }

-- the room whose sums are lent to be read
abbrev pub room_of : Sums → Room
room_of s = lent s.payloads.now s.timestamps.now s.lengths.now s.longest.now

-- how many slots there are: two for each column and one for the row
abbrev pub slots : (l : ℕ) → ℕ
slots l = 2 * l + 1

-- the sum in a slot
abbrev pub sum_at : (p : ℕ) → Room → (slot : ℕ) → Recovery
sum_at p r slot =
    record {
      content = record { timestamp = get_or r.timestamps slot 0; length = get_or r.lengths slot 0; payload = take p (drop (slot * p) r.payloads) };
      size = get_or r.longest slot 0;
    }

-- a sum is written to a slot
abbrev pub put_sum : (p : ℕ) → Room → (slot : ℕ) → Recovery → Room
put_sum p r slot v =
    record {
      payloads = paste r.payloads (slot * p) v.content.payload p;
      timestamps = set r.timestamps slot v.content.timestamp;
      lengths = set r.lengths slot v.content.length;
      longest = set r.longest slot v.size;
    }

-- the recovery of a media packet alone: its own content, as long as it is
abbrev pub alone : (p : ℕ) → (datagram : List ℕ) → Recovery
alone p g = record { content = content_of p g; size = length (drop rtp_header_size g) }

-- two recoveries together: the exclusive-or of their contents, as long as the longer
abbrev pub together : Recovery → Recovery → Recovery
together a b = record { content = xor_content a.content b.content; size = max a.size b.size }

-- a sum with one packet more; a group's first packet replaces what stood there
abbrev pub joined : (first : Bool) → (sum packet : Recovery) → Recovery
joined first sum packet = cond first packet (together sum packet)

-- a packet comes into the sum of a slot
abbrev pub join : (p : ℕ) → Room → (slot : ℕ) → (first : Bool) → (packet : Recovery) → Room
join p r slot first packet = put_sum p r slot (joined first (sum_at p r slot) packet)
