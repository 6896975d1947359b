-- Demand 3 (document 00) in the words of document 01, "The words of demand 3", read as 02, request 1, has it, and over bytes: the statement
-- alone. Theorem.antt proves it.
use Rattle.std.specs.Prelude.{◌≡◌, ◌↔◌, ◌≢◌, ◌⊎◌, Bool, true, false, cond, ◌&&◌, ◌||◌, ℕ, ◌^◌, ◌<◌, ◌≤◌, length, get_or, eqb}
use mathlib.Core.List.{List, [], ◌∷◌, ◌++◌, map, Memᴰ}
use Rattle.answer.specs.declared.Answer.{Answer}
use Rattle.answer.specs.declared.Answer.TheVariants.{Done}
use Rattle.answer.specs.Number.{number_of, spoilt_of}
use Rattle.xor.specs.Xor.{padded}
use Rattle.sequence.specs.Lists.{count}
use Rattle.sequence.specs.Wrap.{number_at}
use Rattle.rtp.specs.Rtp.{sequence_number}
use Rattle.rtp.specs.Fec.{column, row, snbase}
use Rattle.rtp.specs.Faults.{no_row}
use Rattle.rtp.specs.Length.{good_length}
use Rattle.window.specs.declared.Window.{Window}
use Rattle.window.specs.Limits.{width, parity_room}
use Rattle.window.specs.Store.{Store}
use Rattle.window.specs.Group.{group, inside}
use Rattle.calls.specs.Content.{Content, xor_contents, content_at, Recovery, longest}
use Rattle.calls.specs.Datagram.{media_packet, Outer, parity_packet}
use Rattle.calls.specs.Call.{Outcome, asked, opened, offered_media, offered_column, offered_row}

-- ---- "any list of offers (media, column parity, row parity, refused ones included)"

-- the three ports
pub data Port : Type 0 where
  mediaPort columnPort rowPort : Port

-- an offer: a datagram that comes in on a port
pub record Offer : Type 0 where
  pub port : Port
  pub datagram : List ℕ

-- the call for a port: the definition that its contract cites
abbrev pub call_of : Port → Window → List ℕ → Store → Outcome
call_of mediaPort = offered_media
call_of columnPort = offered_column
call_of rowPort = offered_row

-- what an offer gives back, and leaves in the store
abbrev pub offered : Offer → Window → Store → Outcome
offered o w s = call_of o.port w o.datagram s

-- "each offer gets the window value and store the last call left", also where that one was refused
unfoldable pub run : Outcome → List Offer → Outcome
run x [] = x
run x (o ∷ offers) = run (offered o x.window x.store) offers

-- what each of them is answered with
unfoldable pub answers : Outcome → List Offer → List Answer
answers x [] = []
answers x (o ∷ offers) = (offered o x.window x.store).answer ∷ answers (offered o x.window x.store) offers

-- ---- "each an unaltered packet of one stretch as document 01 defines it, on its own port"

-- a media packet as it is sent, but for its number: a timestamp, and a payload of its own length
pub record Sent : Type 0 where
  pub timestamp : ℕ
  pub payload : List ℕ

-- a stretch: media packets, one for each position; a packet's number is its position's
abbrev pub Stretch : Type 0
Stretch = ℕ → Sent

-- "a window that the stretch fills": there are n of them, each with any timestamp and one or more whole units of payload, up to P bytes
pub record Fills (w : Window) (t : Stretch) : Type 0 where
  pub timestamp-fits : (i : ℕ) → i < w.n → (t i).timestamp < 2 ^ 32
  pub size : (i : ℕ) → i < w.n → good_length w.p (length (t i).payload) ≡ true
  pub bytes : (i : ℕ) → i < w.n → (b : ℕ) → Memᴰ b (t i).payload → b < 256

-- the content sent at a position: the length of its payload, and that with zeros up to P bytes
abbrev pub content_sent : Window → Stretch → ℕ → Content
content_sent w t i = record { timestamp = (t i).timestamp; length = length (t i).payload; payload = padded w.p (t i).payload }

-- the recovery of a group over the stretch: the exclusive-or of the contents sent, as long as the longest of their payloads
abbrev pub recovery_sent : Window → Stretch → (group : List ℕ) → Recovery
recovery_sent w t group = record { content = xor_contents w.p (content_sent w t) group; size = longest (map (λ i. length (t i).payload) group) }

-- an unaltered media packet: the datagram of one of them, with its position's number; any SSRC will do
pub record UnalteredMedia (w : Window) (t : Stretch) (datagram : List ℕ) : Type 0 where
  pub place : ℕ
  pub ssrc : ℕ
  pub in_window : place < w.n
  pub ssrc-fits : ssrc < 2 ^ 32
  pub is : datagram ≡ media_packet (number_at width w.base place) ssrc (content_sent w t place)

-- an unaltered parity packet: the datagram of a group of the stream, recovery taken over the stretch (a row only where L ≥ 4);
-- "each group lies wholly inside the window"; any RTP sequence number, timestamp and SSRC will do
pub record UnalteredParity (w : Window) (t : Stretch) (stream : ℕ) (datagram : List ℕ) : Type 0 where
  pub snbase : ℕ
  pub outer : Outer
  pub snbase-fits : snbase < 2 ^ 16
  pub sequence-fits : outer.sequence < 2 ^ 16
  pub timestamp-fits : outer.timestamp < 2 ^ 32
  pub ssrc-fits : outer.ssrc < 2 ^ 32
  pub permitted : no_row stream w.l ≡ false
  pub in_window : inside w stream snbase ≡ true
  pub is : datagram ≡ parity_packet outer stream w.l w.d snbase (recovery_sent w t (group w stream snbase))

-- an unaltered packet on its own port
abbrev pub UnalteredOn : Window → Stretch → Port → List ℕ → Type 0
UnalteredOn w t mediaPort datagram = UnalteredMedia w t datagram
UnalteredOn w t columnPort datagram = UnalteredParity w t column datagram
UnalteredOn w t rowPort datagram = UnalteredParity w t row datagram

-- an offer of an unaltered packet
abbrev pub Unaltered : Window → Stretch → Offer → Type 0
Unaltered w t o = UnalteredOn w t o.port o.datagram

-- ---- which packet an offer is, by its bytes; "two groups are the same if stream and SNBase are"

-- a packet of the stretch: a media packet by its number, a parity packet by its group
pub data Name : Type 0 where
  media_name : (number : ℕ) → Name
  parity_name : (stream snbase : ℕ) → Name

-- the packet that a datagram on a port is
abbrev pub name_on : Port → List ℕ → Name
name_on mediaPort datagram = media_name (sequence_number datagram)
name_on columnPort datagram = parity_name column (snbase datagram)
name_on rowPort datagram = parity_name row (snbase datagram)

-- the packet that an offer is
abbrev pub name_of : Offer → Name
name_of o = name_on o.port o.datagram

-- the packets of a list
abbrev pub names_of : List Offer → List Name
names_of offers = map name_of offers

-- "a packet is received if it's in the list, whatever its offer answered"
abbrev pub Received : List Name → Name → Type 0
Received names x = Memᴰ x names

-- ---- "the different groups are no more than there is parity room"

-- the group of a parity packet; a media packet has none
abbrev pub group_named : Name → List (ℕ × ℕ)
group_named (media_name number) = []
group_named (parity_name stream snbase) = (stream, snbase) ∷ []

-- the groups of the parity packets among them
abbrev pub groups_of : List Name → List (ℕ × ℕ)
groups_of [] = []
groups_of (x ∷ names) = group_named x ++ groups_of names

-- whether a group is in a list
abbrev pub listed : ℕ × ℕ → List (ℕ × ℕ) → Bool
listed k [] = false
listed k (x ∷ l) = eqb k.0 x.0 && eqb k.1 x.1 || listed k l

-- each element once
unfoldable pub different : List (ℕ × ℕ) → List (ℕ × ℕ)
different [] = []
different (x ∷ l) = cond (listed x l) (different l) (x ∷ different l)

-- the different groups of the parity packets among them
abbrev pub distinct_groups : List Name → List (ℕ × ℕ)
distinct_groups names = different (groups_of names)

-- ---- "the list starts on a freshly opened window that the stretch fills"

-- what is given: an opening that answered 0, and a list of unaltered packets of no more groups than there is room
pub record Given (w : Window) (lent : Store) (t : Stretch) (offers : List Offer) : Type 0 where
  pub base-fits : w.base < 2 ^ 16
  pub fills : Fills w t
  pub fresh : (opened w lent).answer ≡ Done 0 0
  pub unaltered : (o : Offer) → Memᴰ o offers → Unaltered w t o
  pub few_groups : length (distinct_groups (names_of offers)) ≤ parity_room w

-- ---- "after every such list this holds"

-- the mark of a position: 1 where its packet is present, 0 where it is missing
abbrev pub mark_at : Store → ℕ → ℕ
mark_at s i = get_or s.marks i 0

-- "some set of the stretch's media packets, none of them received, of which no received parity packet covers exactly one"
pub record Hidden (w : Window) (received : List Name) (S : ℕ → Bool) : Type 0 where
  pub of_stretch : (i : ℕ) → S i ≡ true → i < w.n
  pub unreceived : (i : ℕ) → S i ≡ true → ¬ Received received (media_name (number_at width w.base i))
  pub never-one : (stream snbase : ℕ) → Received received (parity_name stream snbase) → count S (group w stream snbase) ≢ 1

-- "every packet present equals the one sent in number, timestamp and payload", this at its true length; "a packet is missing exactly when it
-- belongs to such a set"; "for unaltered traffic that count is zero": no answer counts a parity packet as spoilt (02, request 1); and "unaltered
-- traffic never meets it": no answer is 18, that a parity packet contradicts its group (02, request 6)
pub record Demand3 (w : Window) (t : Stretch) (received : List Name) (answered : List Answer) (s : Store) : Type 0 where
  pub mark : (i : ℕ) → i < w.n → (mark_at s i ≡ 0) ⊎ (mark_at s i ≡ 1)
  pub present : (i : ℕ) → i < w.n → mark_at s i ≡ 1 → content_at w s i ≡ content_sent w t i
  pub unspoilt : (a : Answer) → Memᴰ a answered → spoilt_of a ≡ 0
  pub believed : (a : Answer) → Memᴰ a answered → number_of a ≢ 18
  pub missing : (i : ℕ) → i < w.n → (mark_at s i ≡ 0) ↔ ((S : ℕ → Bool) × Hidden w received S × (S i ≡ true))

-- ---- the claims, proved in Theorem.antt: demand3 and demand3-same. Start.antt has them from any store in order

-- demand 3 of any list on any freshly opened window
abbrev pub Claim : Type 0
Claim =
    (base ssrc l d p n k : ℕ) (lent : Store) (t : Stretch) (offers : List Offer)
    → Given (asked base ssrc l d p n k) lent t offers
    → Demand3 (asked base ssrc l d p n k) t (names_of offers) (answers (opened (asked base ssrc l d p n k) lent) offers) (run (opened (asked base ssrc l d p n k) lent) offers).store

-- "two such lists of the same packets, in whatever orders and with whatever repeats"
abbrev pub SamePackets : List Name → List Name → Type 0
SamePackets names others = (x : Name) → Received names x ↔ Received others x

-- "from windows opened with the same numbers, leave the same packets present"; each list has its stretch, which may be the same
abbrev pub ClaimSame : Type 0
ClaimSame =
    (base ssrc l d p n k : ℕ) (lent other : Store) (t u : Stretch) (offers others : List Offer)
    → Given (asked base ssrc l d p n k) lent t offers
    → Given (asked base ssrc l d p n k) other u others
    → SamePackets (names_of offers) (names_of others)
    → (i : ℕ) → i < n
    → mark_at (run (opened (asked base ssrc l d p n k) lent) offers).store i ≡ mark_at (run (opened (asked base ssrc l d p n k) other) others).store i
