-- The whole life of a window: from an opening on, any sequence of offers and moves. No packet present, and none that a move wrote out,
-- ever differs from the one sent. The statement alone; Lived.antt proves it.
use Rattle.std.specs.Prelude.{◌≡◌, ◌≢◌, ◌⊎◌, Bool, false, true, ℕ, ◌+◌, ◌^◌, ◌<◌, ◌≤◌, ltb, length, get_or}
use mathlib.Core.List.{List, [], ◌∷◌, ◌++◌, map, Memᴰ}
use Rattle.answer.specs.declared.Answer.{Answer}
use Rattle.answer.specs.declared.Answer.TheVariants.{Done, Refused}
use Rattle.answer.specs.Number.{number_of}
use Rattle.sequence.specs.Lists.{up_to}
use Rattle.sequence.specs.Wrap.{number_at}
use Rattle.rtp.specs.Rtp.{sequence_number}
use Rattle.rtp.specs.Fec.{column, row, snbase}
use Rattle.rtp.specs.Length.{good_length}
use Rattle.window.specs.declared.Window.{Window}
use Rattle.window.specs.Limits.{width, parity_room}
use Rattle.window.specs.Store.{Store}
use Rattle.window.specs.Group.{position, inside}
use Rattle.calls.specs.Content.{content_at}
use Rattle.calls.specs.Datagram.{media_packet}
use Rattle.calls.specs.Call.{Outcome, asked, opened}
use Rattle.calls.specs.Move.{Moved, moved, advanced}
use Rattle.guarantee.specs.Demand3.{Port, mediaPort, columnPort, rowPort, Offer, offered, run, Sent, content_sent, Unaltered, distinct_groups, mark_at}
use Rattle.guarantee.specs.Start.{Start, counted, received_from, SameSetUp, Reached}
use Rattle.guarantee.specs.Moving.{onward, slot_of}

-- ---- a life

-- what happens to a window: a datagram comes in on a port, or the card moves the window, with the outputs that it lends
pub data Event : Type 0 where
  offer : Offer → Event
  move : (by : ℕ) (out sizes : List ℕ) → Event

-- a window value and a store, and the datagrams that moves have written out so far: one for each position that left, in order, empty where
-- the packet was lost
pub record Life : Type 0 where
  pub window : Window
  pub store : Store
  pub gone : List (List ℕ)

-- an opening begins a life
abbrev pub born : Outcome → Life
born x = record { window = x.window; store = x.store; gone = [] }

-- what a move wrote out, as a card reads it: a datagram for each position that left; nothing, where it was refused
abbrev pub handed_out : Answer → Window → (by : ℕ) → Moved → List (List ℕ)
handed_out (Done count spoilt) w by y = map (slot_of w y) (up_to by)
handed_out (Refused number) w by y = []

-- the life after an offer
abbrev pub taking : Life → Outcome → Life
taking x y = record { window = y.window; store = y.store; gone = x.gone }

-- the life after a move
abbrev pub moving : Life → (by : ℕ) → Moved → Life
moving x by y = record { window = y.window; store = y.store; gone = x.gone ++ handed_out y.answer x.window by y }

-- the life after an event: each call gets the window value and store that the last one left, also where that one was refused
abbrev pub after_one : Life → Event → Life
after_one x (offer o) = taking x (offered o x.window x.store)
after_one x (move by out sizes) = moving x by (moved x.window by x.store out sizes)

-- the life after a list of events
unfoldable pub after : Life → List Event → Life
after x [] = x
after x (e ∷ events) = after (after_one x e) events

-- ---- what is given

-- a feed: the media packets as they are sent, without end; packet j has number base + j modulo 65,536, where the base is the opening's
abbrev pub Feed : Type 0
Feed = ℕ → Sent

-- each has any timestamp and one or more whole units of payload, up to P bytes
pub record Feeds (p : ℕ) (feed : Feed) : Type 0 where
  pub timestamp-fits : (j : ℕ) → (feed j).timestamp < 2 ^ 32
  pub size : (j : ℕ) → good_length p (length (feed j).payload) ≡ true
  pub bytes : (j : ℕ) (b : ℕ) → Memᴰ b (feed j).payload → b < 256

-- the stretch that the window stands over: the feed from the first packet on that has not left
abbrev pub under : Feed → Life → Feed
under feed x = onward (length x.gone) feed

-- an offer is fair at its moment: an unaltered packet of the stretch that the window stands over, or one that is refused. A move always is: by any
-- number, into any outputs
abbrev pub Fair : Feed → Life → Event → Type 0
Fair feed x (offer o) = Unaltered x.window (under feed x) o ⊎ (number_of (offered o x.window x.store).answer ≢ 0)
Fair feed x (move by out sizes) = Unit

-- each event of a list is fair at its moment
unfoldable pub AllFair : Feed → Life → List Event → Type 0
AllFair feed x [] = Unit
AllFair feed x (e ∷ events) = Fair feed x e × AllFair feed (after_one x e) events

-- whether a window has a place for a datagram on a port: a position for a media packet, all of its group for a parity packet
abbrev pub has_place : Window → Port → List ℕ → Bool
has_place w mediaPort datagram = ltb (position w (sequence_number datagram)) w.n
has_place w columnPort datagram = inside w column (snbase datagram)
has_place w rowPort datagram = inside w row (snbase datagram)

-- what it has no place for is refused: so packets that come late, or early, are fair
abbrev pub ClaimOutside : Type 0
ClaimOutside = (o : Offer) (w : Window) (s : Store) → has_place w o.port o.datagram ≡ false → number_of (offered o w s).answer ≢ 0

-- what is given: an opening that answered 0, a feed, and fair events that led to the life x; nothing is asked of the room for parity, as an
-- offer that there is none for is refused
pub record GivenLife (w : Window) (lent : Store) (feed : Feed) (events : List Event) (x : Life) : Type 0 where
  pub base-fits : w.base < 2 ^ 16
  pub feeds : Feeds w.p feed
  pub fresh : (opened w lent).answer ≡ Done 0 0
  pub fair : AllFair feed (born (opened w lent)) events
  pub is : after (born (opened w lent)) events ≡ x

-- ---- what holds

-- the window opened as w stands over the feed from the packet on that leaves next, in order, and refusals 1 to 5 let it pass; each packet
-- present is the one sent; each datagram written out is empty or the one sent
pub record Lived (w : Window) (feed : Feed) (x : Life) : Type 0 where
  pub set_up : SameSetUp x.window (advanced (length x.gone) 0 w)
  pub start : Start x.window (under feed x) x.store
  pub present : (i : ℕ) → i < w.n → mark_at x.store i ≡ 1 → content_at w x.store i ≡ content_sent w feed (length x.gone + i)
  pub left : (j : ℕ) → j < length x.gone → (get_or x.gone j [] ≡ []) ⊎ (get_or x.gone j [] ≡ media_packet (number_at width w.base j) w.ssrc (content_sent w feed j))

-- after every such list of events
abbrev pub ClaimLife : Type 0
ClaimLife =
    (base ssrc l d p n k : ℕ) (lent : Store) (feed : Feed) (events : List Event) (x : Life)
    → GivenLife (asked base ssrc l d p n k) lent feed events x
    → Lived (asked base ssrc l d p n k) feed x

-- at any moment of it an unaltered packet of the stretch that the window stands over is not answered 18: where an offer is, it was altered
abbrev pub ClaimBelieved : Type 0
ClaimBelieved =
    (base ssrc l d p n k : ℕ) (lent : Store) (feed : Feed) (events : List Event) (x : Life) (o : Offer)
    → GivenLife (asked base ssrc l d p n k) lent feed events x
    → Unaltered x.window (under feed x) o
    → number_of (offered o x.window x.store).answer ≢ 18

-- a move that is carried out hands out one datagram for each position that it moves by
abbrev pub ClaimOneEach : Type 0
ClaimOneEach = (count spoilt : ℕ) (w : Window) (by : ℕ) (y : Moved) → length (handed_out (Done count spoilt) w by y) ≡ by

-- a life, and the last answer, as what the next call gets
abbrev pub next_gets : Answer → Life → Outcome
next_gets answer x = record { answer = answer; window = x.window; store = x.store }

-- demand 3 of any list of offers that follows, with what the store holds counted as received
abbrev pub ClaimThen : Type 0
ClaimThen =
    (base ssrc l d p n k : ℕ) (lent : Store) (feed : Feed) (events : List Event) (answer : Answer) (x : Life) (offers : List Offer)
    → GivenLife (asked base ssrc l d p n k) lent feed events x
    → ((o : Offer) → Memᴰ o (counted x.window offers) → Unaltered x.window (under feed x) o)
    → length (distinct_groups (received_from x.window x.store offers)) ≤ parity_room x.window
    → Reached (next_gets answer x) (under feed x) offers (run (next_gets answer x) offers)
