-- A window that moves (02, request 5): what a move leaves, what it wrote, and demand 3 between two moves. The statement alone; Moved.antt
-- proves it.
use Rattle.std.specs.Prelude.{◌≡◌, ◌⊎◌, cond, ℕ, ◌+◌, ◌*◌, ◌-◌, ◌<◌, ◌≤◌, length, get_or, take, drop, replicate}
use mathlib.Core.List.{List, [], Memᴰ}
use Rattle.answer.specs.declared.Answer.TheVariants.{Done}
use Rattle.sequence.specs.Wrap.{number_at}
use Rattle.window.specs.declared.Window.{Window}
use Rattle.window.specs.Record.{blank}
use Rattle.window.specs.Limits.{width, rows, parity_room}
use Rattle.window.specs.Store.{Store, timestamp_at, length_at, record_at}
use Rattle.calls.specs.Datagram.{media_packet}
use Rattle.calls.specs.Call.{begun}
use Rattle.calls.specs.Move.{Moved, outcome_of, slot_size, behind, advanced, moved}
use Rattle.guarantee.specs.Demand3.{Offer, run, Stretch, Fills, content_sent, Unaltered, distinct_groups, mark_at, SamePackets}
use Rattle.guarantee.specs.Start.{Start, counted, received_from, SameSetUp, Reached}

-- ---- a move from a start

-- the stretch moved on: what was packet `by` is packet 0
abbrev pub onward : (by : ℕ) → Stretch → Stretch
onward by t i = t (by + i)

-- what is given: x is what a move left that was carried out from a start, into any outputs, and the stretch goes on to fill the window
pub record GivenMove (w : Window) (t : Stretch) (s : Store) (by : ℕ) (x : Moved) : Type 0 where
  pub start : Start w t s
  pub out : List ℕ
  pub sizes : List ℕ
  pub count : ℕ
  pub is : moved w by s out sizes ≡ x
  pub done : x.answer ≡ Done count 0
  pub fills : Fills x.window (onward by t)

-- the base moved on and the other set-up numbers stay; all that the store holds is unaltered for the stretch moved on, and it is in order
abbrev pub ClaimMove : Type 0
ClaimMove =
    (w : Window) (t : Stretch) (s : Store) (by : ℕ) (x : Moved) → GivenMove w t s by x → SameSetUp x.window (advanced by 0 w) × Start x.window (onward by t) x.store

-- ---- "packets leaving are written in order to a lent output"

-- the datagram of a slot, as a card reads it: as many bytes as the number beside it says
abbrev pub slot_of : Window → Moved → (i : ℕ) → List ℕ
slot_of w x i = take (get_or x.sizes i 0) (drop (i * slot_size w) x.out)

-- each position that leaves was missing, and its slot is empty; or it was present, and its slot has the datagram that was sent
abbrev pub ClaimLeft : Type 0
ClaimLeft =
    (w : Window) (t : Stretch) (s : Store) (by : ℕ) (x : Moved) → GivenMove w t s by x
    → (i : ℕ) → i < by
    → ((mark_at s i ≡ 0) × (slot_of w x i ≡ [])) ⊎ ((mark_at s i ≡ 1) × (slot_of w x i ≡ media_packet (number_at width w.base i) w.ssrc (content_sent w t i)))

-- ---- "the other positions move down whole; new positions are missing, all zeros"

-- all that a store has for a position: the P bytes of its payload, its timestamp, length and mark
pub record Cell : Type 0 where
  pub bytes : List ℕ
  pub timestamp : ℕ
  pub length : ℕ
  pub mark : ℕ

-- that of position i
abbrev pub cell_at : Window → Store → ℕ → Cell
cell_at w s i = record { bytes = take w.p (drop (i * w.p) s.media); timestamp = timestamp_at s i; length = length_at s i; mark = mark_at s i }

-- a new one
abbrev pub empty_cell : Window → Cell
empty_cell w = record { bytes = replicate w.p 0; timestamp = 0; length = 0; mark = 0 }

-- what position i has is what position by + i had, and the last `by` positions are new
abbrev pub ClaimPositions : Type 0
ClaimPositions =
    (w : Window) (t : Stretch) (s : Store) (by : ℕ) (x : Moved) → GivenMove w t s by x
    → (i : ℕ)
    → (i < w.n - by → cell_at w x.store i ≡ cell_at w s (by + i)) × (i < by → cell_at w x.store (w.n - by + i) ≡ empty_cell w)

-- ---- "parity with a member behind the new base is released, other records staying where they lie"

-- the P bytes that a store has for a record
abbrev pub bytes_at : Window → Store → ℕ → List ℕ
bytes_at w s r = take w.p (drop (r * w.p) s.parity)

-- each record and its bytes are zero, where it was in use with a member behind, and else as they were
abbrev pub ClaimReleased : Type 0
ClaimReleased =
    (w : Window) (t : Stretch) (s : Store) (by : ℕ) (x : Moved) → GivenMove w t s by x
    → (r : ℕ) → r < rows w
    → (record_at x.store r ≡ cond (behind by (begun w s) r) blank (record_at s r)) × (bytes_at w x.store r ≡ cond (behind by (begun w s) r) (replicate w.p 0) (bytes_at w s r))

-- so a move by n leaves nothing in hand, and nothing present
abbrev pub ClaimEmptied : Type 0
ClaimEmptied = (w : Window) (t : Stretch) (s : Store) (x : Moved) → GivenMove w t s w.n x → (x.window.present ≡ 0) × (x.window.in_use ≡ 0)

-- ---- "demand 3 from then on speaks of the offers between two moves, starting from the store the last move left"

-- what is given: such a move, and a list whose packets that count are unaltered and of no more groups, with those in hand, than there is room;
-- "a parity packet that has a member behind the base" does not count
pub record GivenBetween (w : Window) (t : Stretch) (s : Store) (by : ℕ) (x : Moved) (offers : List Offer) : Type 0 where
  pub move : GivenMove w t s by x
  pub unaltered : (o : Offer) → Memᴰ o (counted x.window offers) → Unaltered x.window (onward by t) o
  pub few_groups : length (distinct_groups (received_from x.window x.store offers)) ≤ parity_room x.window

-- demand 3, where "all it holds is unaltered and counts as received"
abbrev pub ClaimBetween : Type 0
ClaimBetween =
    (w : Window) (t : Stretch) (s : Store) (by : ℕ) (x : Moved) (offers : List Offer) → GivenBetween w t s by x offers
    → Reached (outcome_of x) (onward by t) offers (run (outcome_of x) offers)

-- "two lists are compared from equal stores and window values", whatever moves left them: with the same packets received, the same are present
abbrev pub ClaimSameBetween : Type 0
ClaimSameBetween =
    (w v : Window) (t u : Stretch) (s r : Store) (by to : ℕ) (x y : Moved) (offers others : List Offer)
    → GivenBetween w t s by x offers
    → GivenBetween v u r to y others
    → x.window ≡ y.window
    → x.store ≡ y.store
    → SamePackets (received_from x.window x.store offers) (received_from y.window y.store others)
    → (i : ℕ) → i < x.window.n
    → mark_at (run (outcome_of x) offers).store i ≡ mark_at (run (outcome_of y) others).store i
