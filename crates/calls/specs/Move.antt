-- Moving the window on: the packets that leave are written out, parity with a member among them is released, and the other positions move
-- down (02, request 5).
use Rattle.std.specs.Prelude.{Bool, cond, not, ◌&&◌, ◌||◌, List, [], ◌∷◌, ◌++◌, map, ℕ, zero, suc, ◌+◌, ◌*◌, ◌-◌, eqb, ltb, length, take, drop, replicate}
use Rattle.answer.specs.declared.Answer.{Answer}
use Rattle.answer.specs.declared.Answer.TheVariants.{Done, Refused}
use Rattle.answer.specs.First.{first}
use Rattle.xor.specs.Xor.{padded}
use Rattle.sequence.specs.Lists.{up_to, any, count}
use Rattle.sequence.specs.Wrap.{number_at}
use Rattle.rtp.specs.Rtp.{rtp_header_size}
use Rattle.window.specs.declared.Window.{Window}
use Rattle.window.specs.Limits.{width, rows, set_up_tests}
use Rattle.window.specs.Store.{Store, short_store}
use Rattle.window.specs.Group.{is_missing}
use Rattle.window.specs.Order.{is_in_use, group_at, disorder}
use Rattle.calls.specs.Content.{content_at}
use Rattle.calls.specs.Datagram.{media_packet}
use Rattle.calls.specs.State.{State, release_below}
use Rattle.calls.specs.Call.{Outcome, over, begun}

-- what a move gives back, and leaves in the lent store and in the two outputs: datagrams, and their lengths
pub record Moved : Type 0 where
  pub answer : Answer
  pub window : Window
  pub store : Store
  pub out : List ℕ
  pub sizes : List ℕ

-- what it gives back and leaves in the store alone, as an offer's outcome
abbrev pub outcome_of : Moved → Outcome
outcome_of m = record { answer = m.answer; window = m.window; store = m.store }

-- ---- refusals

-- 22: a window moves by 1 to n positions
abbrev pub bad_move : Window → (by : ℕ) → Bool
bad_move w by = ltb by 1 || ltb w.n by

-- the bytes of the output for each position that leaves
abbrev pub slot_size : Window → ℕ
slot_size w = rtp_header_size + w.p

-- the outputs are shorter than what leaves: a slot and a length for each position
abbrev pub short_outputs : Window → (by : ℕ) → (out sizes : List ℕ) → Bool
short_outputs w by out sizes = ltb (length out) (by * slot_size w) || ltb (length sizes) by

-- the tests of a move: 1, 2, 3, 22, 4, 5
abbrev pub move_tests : Window → (by : ℕ) → Store → (out sizes : List ℕ) → List (ℕ × Bool)
move_tests w by s out sizes = set_up_tests w ++ ((22, bad_move w by) ∷ (4, short_store w s || short_outputs w by out sizes) ∷ (5, disorder w s) ∷ [])

-- ---- what leaves

-- the datagram of a position: its packet as reading out gives it, nothing where that is lost
abbrev pub leaving : Window → Store → (i : ℕ) → List ℕ
leaving w s i = cond (is_missing s.marks i) [] (media_packet (number_at width w.base i) w.ssrc (content_at w s i))

-- the datagrams of the first positions, each in a slot of its own with zeros behind it
abbrev pub leaving_slots : Window → Store → (by : ℕ) → List ℕ
leaving_slots w s zero = []
leaving_slots w s (suc i) = leaving_slots w s i ++ padded (slot_size w) (leaving w s i)

-- their lengths: 0 where a packet is lost
abbrev pub leaving_sizes : Window → Store → (by : ℕ) → List ℕ
leaving_sizes w s by = map (λ i. length (leaving w s i)) (up_to by)

-- how many packets leave
abbrev pub leaving_count : Store → (by : ℕ) → ℕ
leaving_count s by = count (λ i. not (is_missing s.marks i)) (up_to by)

-- ---- what is released

-- a record in use whose group has a member behind position `by`, where the new base is
abbrev pub behind : (by : ℕ) → State → ℕ → Bool
behind by x r = is_in_use x.window x.store r && any (λ i. ltb i by) (group_at x.window x.store r)

-- every such record is released, the others stay where they lie
unfoldable pub release_behind : (by : ℕ) → State → State
release_behind by x = release_below (behind by) (rows x.window) x

-- ---- what moves

-- the first n elements of a part move down by m, with zeros behind them; the rest stays
abbrev pub moved_down : (m n : ℕ) → List ℕ → List ℕ
moved_down m n part = take (n - m) (drop m part) ++ replicate m 0 ++ drop n part

-- the positions move down whole, and new ones are missing, all zeros
abbrev pub shifted : Window → (by : ℕ) → Store → Store
shifted w by s =
    record {
      media = moved_down (by * w.p) (w.n * w.p) s.media;
      timestamps = moved_down by w.n s.timestamps;
      lengths = moved_down by w.n s.lengths;
      marks = moved_down by w.n s.marks;
      parity = s.parity;
      records = s.records;
    }

-- the window value with its base moved on, and fewer packets present
abbrev pub advanced : (by left : ℕ) → Window → Window
advanced by left w =
    record {
      base = number_at width w.base by;
      ssrc = w.ssrc;
      l = w.l;
      d = w.d;
      p = w.p;
      n = w.n;
      k = w.k;
      present = w.present - left;
      in_use = w.in_use;
    }

-- ---- the call

-- the window moved on, with what leaves at the front of the outputs; the count is of packets written
abbrev pub moved_on : Window → (by : ℕ) → Store → (out sizes : List ℕ) → Moved
moved_on w by s out sizes =
    record {
      answer = Done (leaving_count s by) 0;
      window = advanced by (leaving_count s by) (release_behind by (begun w s)).window;
      store = shifted w by (release_behind by (begun w s)).store;
      out = over (leaving_slots w s by) out;
      sizes = over (leaving_sizes w s by) sizes;
    }

-- the base advances by a number of positions, or the move is refused
unfoldable pub moved : Window → (by : ℕ) → Store → (out sizes : List ℕ) → Moved
moved w by s out sizes =
    cond (eqb (first (move_tests w by s out sizes)) 0) (moved_on w by s out sizes)
    (record { answer = Refused (first (move_tests w by s out sizes)); window = w; store = s; out = out; sizes = sizes })
