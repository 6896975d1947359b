-- The tests of a sender's calls by the sizes of what is lent, and what is known where none of them applies.
use Rattle.std.specs.Prelude.{◌≡◌, Bool, true, false, not, ◌||◌, List, [], ◌∷◌, ◌++◌, ℕ, zero, suc, ◌+◌, ◌*◌, ◌-◌, ◌≤◌, ◌<◌, eqb, leb, ltb, length, get_or, take}
use Rattle.std.proofs.Common.{mul-le-mul_right, arith, ltb-true, ltb-false, leb-true, eqb-true}
use Rattle.std.proofs.lemmas.Bool.{not-false}
use Rattle.answer.specs.First.{first, first-none, first-front, first_back}
use Rattle.sequence.specs.Lists.{all}
use Rattle.sequence.proofs.Lists.{and_split, or_split}
use Rattle.rtp.specs.Rtp.{rtp_header_size, sequence_number}
use Rattle.rtp.specs.Fec.{parity_header_size}
use Rattle.rtp.specs.Length.{good_length, whole-high}
use Rattle.rtp.specs.Faults.{media_tests}
use Rattle.window.specs.Bounds.{Profile, profile-good, payload-good}
use Rattle.schedule.specs.Schedule.{matrices}
use Rattle.schedule.specs.Numbers.{Small}
use Rattle.sender.specs.declared.Sender.{Sender}
use Rattle.sender.specs.Sums.{Room, slots}
use Rattle.sender.specs.Call.{profile, next_number, set_up_tests, short_output, astray, short_room, standing_tests, offer_tests}

-- ---- the tests by sizes

-- `short_room`, by how many elements the parts have
abbrev pub short_by : Sender → (payloads timestamps lengths longest : ℕ) → Bool
short_by s payloads timestamps lengths longest =
    ltb payloads (slots s.l * s.p) || ltb timestamps (slots s.l) || ltb lengths (slots s.l) || ltb longest (slots s.l)

-- 13
abbrev pub out_of_turn : Sender → (datagram : List ℕ) → Bool
out_of_turn s g = not (eqb (sequence_number g) (next_number s))

-- ---- what is known where none applies

-- none of refusals 1 and 2
pub record SetUp (s : Sender) : Type 0 where
  pub profile : Profile s.l s.d
  pub p-low : 188 ≤ s.p
  pub p-high : s.p ≤ 1428

-- a room with as much of each part as the sender needs
pub record Roomy (s : Sender) (r : Room) : Type 0 where
  pub payloads-long : slots s.l * s.p ≤ length r.payloads
  pub timestamps-long : slots s.l ≤ length r.timestamps
  pub lengths-long : slots s.l ≤ length r.lengths
  pub longest-long : slots s.l ≤ length r.longest

-- none of refusals 1 to 5
pub record Ready (s : Sender) (r : Room) : Type 0 where
  pub set_up : SetUp s
  pub roomy : Roomy s r
  pub at_low : s.at < matrices * (s.l * s.d)
  pub within : (i : ℕ) → i < slots s.l → get_or r.longest i 0 ≤ s.p

-- a datagram's payload is no longer than P
pub record Payload (p n : ℕ) : Type 0 where
  pub header : rtp_header_size ≤ n
  pub fits : n ≤ rtp_header_size + p
  pub small : p ≤ 1428

-- a slot lies in the room
pub record Slot (slot p : ℕ) (r : Room) : Type 0 where
  pub low : slot < 41
  pub payload-ends : slot * p + p ≤ length r.payloads
  pub timestamp-inside : slot < length r.timestamps
  pub length-inside : slot < length r.lengths
  pub longest-inside : slot < length r.longest

pub set_up_good : (s : Sender) → first (set_up_tests s) ≡ 0 → SetUp s
set_up_good s e =
    let none = first-none (set_up_tests s) (tt, (tt, tt)) e in
    let p = payload-good (profile s) none.1.0 in
    record { profile = profile-good (profile s) none.0; p-low = p.0; p-high = p.1 }

-- the profile, as the schedule asks for it
pub small_of : (s : Sender) → SetUp s → Small s.l s.d
small_of s u =
    record {
      columns = u.profile.l-low;
      columns_most = u.profile.l-high;
      rows = omega (arith, u.profile.d-low);
      rows_most = u.profile.d-high;
      matrix = u.profile.area;
    }

pub roomy_of : (s : Sender) (r : Room) → short_room s r ≡ false → Roomy s r
roomy_of s r e =
    let s3 = or_split _ _ e in
    let s2 = or_split _ _ s3.0 in
    let s1 = or_split _ _ s2.0 in
    record { payloads-long = ltb-false _ _ s1.0; timestamps-long = ltb-false _ _ s1.1; lengths-long = ltb-false _ _ s2.1; longest-long = ltb-false _ _ s3.1 }

-- what holds of the first n elements of a list
pub all-within : (p n : ℕ) (l : List ℕ) → n ≤ length l → all (λ i. leb i p) (take n l) ≡ true → (i : ℕ) → i < n → get_or l i 0 ≤ p
all-within p zero l h e i k = absurd (omega arith)
all-within p (suc n) [] h e i k = absurd (omega (arith, h))
all-within p (suc n) (a ∷ l) h e zero k = leb-true a p (and_split (leb a p) (all (λ i. leb i p) (take n l)) e).0
all-within p (suc n) (a ∷ l) h e (suc i) k = all-within p n l (omega arith) (and_split (leb a p) (all (λ i. leb i p) (take n l)) e).1 i (omega arith)

module _ (s : Sender) (r : Room) (row column : ℕ) where
  -- refusals 1 to 5 passed: what is lent is enough, and in order
  pub standing-good : first (standing_tests s r row column) ≡ 0 → Ready s r × (parity_header_size + s.p ≤ row) × (parity_header_size + s.p ≤ column)
  standing-good e =
      let none = first-none (standing_tests s r row column) (tt, (tt, (tt, (tt, tt)))) e in
      let four = or_split (short_room s r || short_output s row) (short_output s column) none.1.1.0 in
      let three = or_split (short_room s r) (short_output s row) four.0 in
      let room = roomy_of s r three.0 in
      let five = or_split (not (ltb s.at (matrices * (s.l * s.d)))) (not (all (λ n. leb n s.p) (take (slots s.l) r.longest))) none.1.1.1.0 in (
        record {
          set_up = set_up_good s (first-front (set_up_tests s) ((4, short_room s r || short_output s row || short_output s column) ∷ (5, astray s r.longest) ∷ []) e);
          roomy = room;
          at_low = ltb-true s.at (matrices * (s.l * s.d)) (not-false _ five.0);
          within = all-within s.p (slots s.l) r.longest room.longest-long (not-false _ five.1);
        },
        ltb-false row (parity_header_size + s.p) three.1,
        ltb-false column (parity_header_size + s.p) four.1,
      )

-- refusals 6 to 9 passed
pub payload_of : (p : ℕ) (g : List ℕ) → p ≤ 1428 → first (media_tests p g) ≡ 0 → Payload p (length g)
payload_of p g h e =
    let none = first-none (media_tests p g) (tt, (tt, (tt, (tt, tt)))) e in
    let long = ltb-false (length g) rtp_header_size none.0 in
    let n = whole-high p p (length g - rtp_header_size) (not-false _ none.1.1.1.0) in
    record { header = long; fits = omega arith; small = h }

-- a slot of a room that is enough
pub slot_of : (s : Sender) (r : Room) (slot : ℕ) → SetUp s → Roomy s r → slot < slots s.l → Slot slot s.p r
slot_of s r slot u q h =
    let m = mul-le-mul_right s.p h in
    record {
      low = omega (arith, u.profile.l-high);
      payload-ends = omega (arith, q.payloads-long);
      timestamp-inside = omega (arith, q.timestamps-long);
      length-inside = omega (arith, q.lengths-long);
      longest-inside = omega (arith, q.longest-long);
    }

-- refusal 4 passed: there are enough longest lengths to look at
pub longest-enough : (s : Sender) (payloads timestamps lengths longest row column : ℕ) → (short_by s payloads timestamps lengths longest || short_output s row || short_output s column) ≡ false → slots s.l ≤ longest
longest-enough s payloads timestamps lengths longest row column e =
    let four = or_split (short_by s payloads timestamps lengths longest || short_output s row) (short_output s column) e in
    let room = or_split (short_by s payloads timestamps lengths longest) (short_output s row) four.0 in
    ltb-false longest (slots s.l) (or_split (ltb payloads (slots s.l * s.p) || ltb timestamps (slots s.l) || ltb lengths (slots s.l)) (ltb longest (slots s.l)) room.0).1

-- ---- an offer that no refusal applies to
pub record Taken (s : Sender) (g : List ℕ) (r : Room) (row column : ℕ) : Type 0 where
  pub ready : Ready s r
  pub row-long : parity_header_size + s.p ≤ row
  pub column-long : parity_header_size + s.p ≤ column
  pub payload : Payload s.p (length g)
  pub size : good_length s.p (length g - rtp_header_size) ≡ true
  pub number : sequence_number g ≡ next_number s

pub offer-taken : (s : Sender) (g : List ℕ) (r : Room) (row column : ℕ) → first (offer_tests s g r row column) ≡ 0 → Taken s g r row column
offer-taken s g r row column e =
    let rest : List (ℕ × Bool) = media_tests s.p g ++ ((13, out_of_turn s g) ∷ []) in
    let stands = standing-good s r row column (first-front (standing_tests s r row column) rest e) in
    let own = first_back (standing_tests s r row column) rest (tt, (tt, (tt, (tt, tt)))) e in
    let media = first-front (media_tests s.p g) ((13, out_of_turn s g) ∷ []) own in
    let turn = first-none ((13, out_of_turn s g) ∷ []) (tt, tt) (first_back (media_tests s.p g) ((13, out_of_turn s g) ∷ []) (tt, (tt, (tt, (tt, tt)))) own) in
    record {
      ready = stands.0;
      row-long = stands.1;
      column-long = stands.2;
      payload = payload_of s.p g stands.0.set_up.p-high media;
      size = not-false _ (first-none (media_tests s.p g) (tt, (tt, (tt, (tt, tt)))) media).1.1.1.0;
      number = eqb-true (sequence_number g) (next_number s) (not-false _ turn.0);
    }
