-- A sender's life: from an opening, any list of offers, each getting what the last one left (02, request 4).
use Rattle.std.specs.Prelude.{◌≡◌, cond, List, [], ◌∷◌, ◌++◌, ℕ, eqb, get_or}
use Rattle.std.proofs.Math.Option.{Option, none, some}
use Rattle.answer.specs.declared.Answer.TheVariants.{Done}
use Rattle.answer.specs.First.{first}
use Rattle.sequence.specs.Wrap.{number_at}
use Rattle.rtp.specs.Fec.{column, row}
use Rattle.window.specs.declared.Window.{Window}
use Rattle.window.specs.Limits.{width}
use Rattle.window.specs.Store.{Store}
use Rattle.calls.specs.Call.{Written, write_tests, wrote_parity}
use Rattle.schedule.specs.Schedule.{Cycle, named, start, column_due, row_due}
use Rattle.sender.specs.declared.Sender.{Sender}
use Rattle.sender.specs.declared.Outer.{Outer}
use Rattle.sender.specs.Sums.{Room}
use Rattle.sender.specs.Call.{Opened, fresh, opened, outer, Outcome, offered}
use Rattle.sent.specs.Written.{Holds}

-- an offer: a media datagram, the numbers for the two parity packets, and the two outputs
pub record Offer : Type 0 where
  pub datagram : List ℕ
  pub row : Outer
  pub column : Outer
  pub row_out : List ℕ
  pub column_out : List ℕ

-- what the offers so far have left, and the datagrams that were taken, in order
pub record Life : Type 0 where
  pub sender : Sender
  pub room : Room
  pub taken : List (List ℕ)

-- what a call answers to an offer
abbrev pub answer : Life → Offer → Outcome
answer x o = offered x.sender o.datagram o.row o.column x.room o.row_out o.column_out

-- one offer more: it is taken where the answer is 0
abbrev pub next : Life → Offer → Life
next x o =
    record {
      sender = (answer x o).sent.sender;
      room = (answer x o).room;
      taken = cond (eqb (answer x o).sent.number 0) (x.taken ++ (o.datagram ∷ [])) x.taken;
    }

-- and a list of them
abbrev pub after : Life → List Offer → Life
after x [] = x
after x (o ∷ os) = after (next x o) os

-- the set-up numbers that a card opens with
pub record SetUp : Type 0 where
  pub first : ℕ
  pub arrangement : ℕ
  pub l : ℕ
  pub d : ℕ
  pub p : ℕ

-- the opening, in a room
abbrev pub opening : SetUp → Room → Opened
opening u r = opened (fresh u.first u.arrangement u.l u.d u.p) r

-- the life of a sender from its opening on
abbrev pub life : SetUp → Room → List Offer → Life
life u r os = after (record { sender = (opening u r).sent.sender; room = (opening u r).room; taken = [] }) os

-- datagram i of those that were taken
abbrev pub datagram_at : List (List ℕ) → ℕ → List ℕ
datagram_at gs i = get_or gs i []

-- an output was not used
pub record Untouched (bytes : ℕ) (before after : List ℕ) : Type 0 where
  pub none_written : bytes ≡ 0
  pub same : after ≡ before

-- an output has what the base writes for the group of a stream that starts with packet b, over any window of the profile and any store that holds
-- the group's packets and lets it be written: bytes and count
pub record AsBase (u : SetUp) (datagrams : List (List ℕ)) (o : Outer) (stream b bytes : ℕ) (before after : List ℕ) : Type 0 where
  pub written : (w : Window) (s : Store) → w.l ≡ u.l → w.d ≡ u.d → w.p ≡ u.p
      → Holds w s stream (number_at width u.first b) b (datagram_at datagrams)
      → first (write_tests w stream (number_at width u.first b) s before) ≡ 0
      → ◌≡◌ {A = Written} (record { answer = Done bytes 0; window = w; out = after }) (wrote_parity stream w (number_at width u.first b) (outer o) s before)

-- what the row output has to be, by the row that is due
abbrev pub RowSent : SetUp → (datagrams : List (List ℕ)) → Outer → (bytes : ℕ) → (before after : List ℕ) → Option ℕ → Type 0
RowSent u gs o bytes before after none = Untouched bytes before after
RowSent u gs o bytes before after (some b) = AsBase u gs o row b bytes before after

-- what the column output has to be, by the column that is due
abbrev pub ColumnSent : SetUp → (datagrams : List (List ℕ)) → Outer → (bytes : ℕ) → (before after : List ℕ) → Option Cycle → Type 0
ColumnSent u gs o bytes before after none = Untouched bytes before after
ColumnSent u gs o bytes before after (some c) = AsBase u gs o column (start (named u.arrangement) u.l u.d c) bytes before after

-- what goes out with packet i, the next of a life, is what the schedule has for it
pub record Sends (u : SetUp) (datagrams : List (List ℕ)) (i : ℕ) (o : Offer) (y : Outcome) : Type 0 where
  pub row : RowSent u datagrams o.row y.sent.row o.row_out y.row (row_due u.l i)
  pub column : ColumnSent u datagrams o.column y.sent.column o.column_out y.column (column_due (named u.arrangement) u.l u.d i)
