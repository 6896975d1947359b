-- Request 4's theorem, once over both arrangements: from an opening, each offer getting what the last one left, what goes out with each packet
-- taken is what the schedule has for it, byte for byte what the base writes for that group; and of what the schedule has, each group
-- goes out once.
use Rattle.std.specs.Prelude.{◌≡◌, Bool, true, false, List, [], ◌∷◌, ◌++◌, eqb, length}
use Rattle.std.proofs.Math.Path.{refl, ap}
use Rattle.std.proofs.Common.{sym, ◌∙◌, ap₂, subst, arith, eqb-true, eq-eqb, ne_eqb}
use Rattle.std.proofs.Math.Option.{Option, none, some, map}
use Prim.Native.Nat.{ℕ, ◌+◌, ◌*◌, ◌-◌, ◌/◌, ◌%◌, ◌^◌, ◌≤◌, ◌<◌}
use Rattle.std.proofs.Math.Nat.{mod-add-mod, add-mod-mod, add-mod_right}
use Rattle.std.proofs.Math.ListN.{get_or-append}
use Rattle.std.proofs.lemmas.Bool.{eqb-false}
use Rattle.answer.specs.declared.Answer.TheVariants.{Done}
use Rattle.answer.specs.First.{first}
use Rattle.sequence.specs.Wrap.{ahead, number_at}
use Rattle.rtp.specs.Fec.{parity_header_size, column, row, offset_of, na_of}
use Rattle.rtp.specs.Faults.{media_tests}
use Rattle.window.specs.declared.Window.{Window}
use Rattle.window.specs.Limits.{width}
use Rattle.window.specs.Store.{Store}
use Rattle.window.specs.Group.{group}
use Rattle.calls.specs.Content.{Recovery, recovery_over}
use Rattle.calls.specs.Datagram.{parity_packet}
use Rattle.calls.specs.Call.{Written, write_tests, wrote_parity, over as laidOver}
use Rattle.schedule.specs.declared.Arrangement.{Arrangement}
use Rattle.schedule.specs.declared.Arrangement.TheVariants.{Aligned}
use Rattle.schedule.specs.Schedule.{Cycle, start, due, column_due, row_due, slot, row_slot}
use Rattle.schedule.proofs.Exact.{member-before, column_due-due, due-column_due, row_due-last, last-row_due, no-row_due}
use Rattle.schedule.specs.Place.{Place, later}
use Rattle.schedule.proofs.Place.{column_due-place, row_due-place, start-place, slot-later}
use Rattle.schedule.specs.Numbers.{Small}
use Rattle.sender.specs.declared.Sender.{Sender}
use Rattle.sender.specs.declared.Outer.{Outer}
use Rattle.sender.specs.Sums.{Room, sum_at, together}
use Rattle.sender.specs.Call.{arrangement_of, next_number, outer, offer_tests, open_tests, number_tests, fresh, opened, absorbed, packet, column_by, column_out, row_by, row_out, Outcome, took, refused, offered}
use Rattle.sender.specs.Ready.{Taken, small_of, offer-taken}
use Rattle.sent.specs.Sums.{over}
use Rattle.sent.specs.Kept.{Joins, row-whole, column-whole}
use Rattle.sent.specs.Room.{empty, Sized, together-laws}
use Rattle.sent.proofs.Room.{absorbs}
use Rattle.sent.proofs.Written.{written-sum}
use Rattle.sent.specs.Life.{Offer, Life, answer, next, after, SetUp, opening, life, datagram_at, AsBase, RowSent, ColumnSent, Sends}
use Rattle.sent.specs.Lives.{packets, packets-sized, Lives}
use Rattle.sent.proofs.Lives.{lives_open, lives-next, last_of, takes as takes-every}
use Rattle.sent.specs.Theorem.{set_up_of, Goes}

-- ---- numbers
-- the number that lies so many before the next one, for numbers of w bits
number-back : (w first n back b : ℕ) → b + back ≡ n → back ≤ 2 ^ w → ahead w back (number_at w first (n % 2 ^ w)) ≡ number_at w first b
number-back w f n back b e h =
    let one : (f + n % 2 ^ w) % 2 ^ w ≡ (f + n) % 2 ^ w = add-mod-mod f n (2 ^ w) in
    let two : f + n + (2 ^ w - back) ≡ f + b + 2 ^ w = omega arith in
    ap (λ (k : ℕ). (k + (2 ^ w - back)) % 2 ^ w) one ∙ mod-add-mod (f + n) (2 ^ w) (2 ^ w - back) ∙ ap (λ (k : ℕ). k % 2 ^ w) two ∙ add-mod_right (f + b) (2 ^ w)

module _ (s : Sender) (o : Outer) (stream back place b : ℕ) (r : Room) (gs : List (List ℕ)) (out : List ℕ)
    (number : ahead width back (next_number s) ≡ number_at width s.first b)
    (sum : sum_at s.p r place ≡ over together (empty s.p) (packets s.p (datagram_at gs)) b (offset_of stream s.l) (na_of stream s.l s.d)) where
  as_base : AsBase (set_up_of s) gs o stream b (packet s o stream back place r out).bytes out (packet s o stream back place r out).out
  unfolding wrote_parity
  as_base = record { written = λ w t el ed ep h e. same w t el ed ep (written-sum w t stream (number_at width s.first b) b (datagram_at gs) h) e }
    where
      all : (p l d : ℕ) → Recovery
      all p l d = over together (empty p) (packets p (datagram_at gs)) b (offset_of stream l) (na_of stream l d)

      same : (w : Window) (t : Store) → w.l ≡ s.l → w.d ≡ s.d → w.p ≡ s.p
          → recovery_over w t (group w stream (number_at width s.first b)) ≡ over together (empty w.p) (packets w.p (datagram_at gs)) b (offset_of stream w.l) (na_of stream w.l w.d)
          → first (write_tests w stream (number_at width s.first b) t out) ≡ 0
          → ◌≡◌ {A = Written} (record { answer = Done (packet s o stream back place r out).bytes 0; window = w; out = (packet s o stream back place r out).out })
          (wrote_parity stream w (number_at width s.first b) (outer o) t out)
      same w t el ed ep h e =
          let k = number_at width s.first b in
          let is : recovery_over w t (group w stream k) ≡ sum_at s.p r place = h ∙ ap (λ (p : ℕ). all p w.l w.d) ep ∙ ap₂ (λ (l d : ℕ). all s.p l d) el ed ∙ sym sum in
          let yes : Recovery → (l d k : ℕ) → Written = λ v l d k. record { answer = Done (parity_header_size + v.size) 0; window = w; out = laidOver (parity_packet (outer o) stream l d k v) out } in
          let done : yes (recovery_over w t (group w stream k)) w.l w.d k ≡ wrote_parity stream w k (outer o) t out = rw (eq-eqb (first (write_tests w stream k t out)) 0 e) in
          ap (λ (n : ℕ). yes (sum_at s.p r place) s.l s.d n) number
          ∙ ap (λ (z : Recovery). yes z s.l s.d k) (sym is)
          ∙ ap₂ (λ (l d : ℕ). yes (recovery_over w t (group w stream k)) l d k) (sym el) (sym ed)
          ∙ done

-- ---- what goes out with a packet
module _ (s : Sender) (r : Room) (gs : List (List ℕ)) (v : Lives s r gs) (o : Offer) (u : Taken s o.datagram r (length o.row_out) (length o.column_out)) where
  abbrev x : List ℕ
  x = o.datagram

  w : Small s.l s.d
  w = small_of s v.ready.set_up

  abbrev all : List (List ℕ)
  all = gs ++ (x ∷ [])

  goes : (j : ℕ) → j < length gs → datagram_at all j ≡ datagram_at gs j
  goes j h = get_or-append gs (x ∷ []) [] j h

  place : Place (s.l * s.d) s.at (length gs)
  place = (v.kept (datagram_at all) goes).place

  joins : Joins together (empty s.p) (Sized s.p) (together-laws s.p) (packets s.p (datagram_at all)) (packets-sized s.p (datagram_at all)) (arrangement_of s) s.l s.d s.at
      (packets s.p (datagram_at all) (length gs)) (sum_at s.p r) (sum_at s.p (absorbed s x r))
  joins = rw (last_of gs x) (absorbs s r x v.ready u.payload (packets s.p (datagram_at all)) (packets-sized s.p (datagram_at all)))

  number : (back b : ℕ) → b + back ≡ length gs → back ≤ 300 → ahead width back (next_number s) ≡ number_at width s.first b
  number back b e h = rw v.taken (number-back width s.first (length gs) back b e (omega arith))

  row-sent : RowSent (set_up_of s) all o.row (row_out s o.row (absorbed s x r) o.row_out).bytes o.row_out (row_out s o.row (absorbed s x r) o.row_out).out (row_due s.l (length gs))
  unfolding row_out
  row-sent = rw (row_due-place s.l s.d w.columns w.rows (arrangement_of s) s.at (length gs) place) (go (row_due s.l s.at) refl)
    where
      t : ℕ
      t = place.turns * (2 * (s.l * s.d))

      go : (q : Option ℕ) → row_due s.l s.at ≡ q
          → RowSent (set_up_of s) all o.row (row_by s o.row (absorbed s x r) o.row_out q).bytes o.row_out (row_by s o.row (absorbed s x r) o.row_out q).out (map (λ b. b + t) q)
      go none e = record { none_written = refl; same = refl }
      go (some b) e =
          let f = row_due-last s.l s.d w.columns w.rows (arrangement_of s) s.at b e in
          let due : row_due s.l (length gs) ≡ some (b + t) = row_due-place s.l s.d w.columns w.rows (arrangement_of s) s.at (length gs) place ∙ ap (map (λ b. b + t)) e in
          as_base s o.row row (s.at - b) (row_slot s.l) (b + t) (absorbed s x r) all o.row_out
          (number (s.at - b) (b + t) (omega (arith, place.is)) (omega (arith, w.columns_most)))
          (row-whole together (empty s.p) (Sized s.p) (together-laws s.p) (packets s.p (datagram_at all)) (packets-sized s.p (datagram_at all)) (arrangement_of s) s.l s.d w.columns w.rows (length gs) s.at (sum_at s.p r) (v.kept (datagram_at all) goes) (sum_at s.p (absorbed s x r)) joins (b + t) due)

  column-sent : ColumnSent (set_up_of s) all o.column (column_out s o.column r o.column_out).bytes o.column_out (column_out s o.column r o.column_out).out (column_due (arrangement_of s) s.l s.d (length gs))
  unfolding column_out
  column-sent = rw (column_due-place s.l s.d w.columns w.rows (arrangement_of s) s.at (length gs) place) (go (column_due (arrangement_of s) s.l s.d s.at) refl)
    where
      go : (q : Option Cycle) → column_due (arrangement_of s) s.l s.d s.at ≡ q
          → ColumnSent (set_up_of s) all o.column (column_by s o.column r o.column_out q).bytes o.column_out (column_by s o.column r o.column_out q).out (map (later place.turns) q)
      go none e = record { none_written = refl; same = refl }
      go (some c) e =
          let a = arrangement_of s in
          let b = start a s.l s.d c in
          let c' = later place.turns c in
          let own = column_due-due s.l s.d w.columns w.rows a s.at c e in
          let now : column_due a s.l s.d (length gs) ≡ some c' = column_due-place s.l s.d w.columns w.rows a s.at (length gs) place ∙ ap (map (later place.turns)) e in
          let is = column_due-due s.l s.d w.columns w.rows a (length gs) c' now in
          let from = start-place s.l s.d w.columns w.rows a s.at (length gs) place c in
          let before = member-before s.l s.d w.columns w.rows a c 0 w.rows in
          as_base s o.column column (s.at - b) (slot s.l c) (start a s.l s.d c') r all o.column_out
          (number (s.at - b) (start a s.l s.d c') (omega (arith, place.is, from, own.at, before)) (omega (arith, v.ready.at_low, w.matrix)))
          (ap (sum_at s.p r) (sym (slot-later s.l s.d w.columns w.rows place.turns c))
          ∙ column-whole together (empty s.p) (Sized s.p) (together-laws s.p) (packets s.p (datagram_at all)) (packets-sized s.p (datagram_at all)) a s.l s.d w.columns w.rows (length gs) s.at (sum_at s.p r) (v.kept (datagram_at all) goes) c' is)

  sends-taken : Sends (set_up_of s) all (length gs) o (took s x o.row o.column r o.row_out o.column_out)
  sends-taken = record { row = row-sent; column = column-sent }

-- ---- from an opening on
-- an answer is that of an offer that was taken, or of one that was refused
module _ (s : Sender) (r : Room) (o : Offer) where
  tests : ℕ
  tests = first (offer_tests s o.datagram r (length o.row_out) (length o.column_out))

  given : Outcome
  given = offered s o.datagram o.row o.column r o.row_out o.column_out

  when_taken : tests ≡ 0 → given ≡ took s o.datagram o.row o.column r o.row_out o.column_out
  unfolding given tests offered
  when_taken e = rw (eq-eqb (first (offer_tests s o.datagram r (length o.row_out) (length o.column_out))) 0 e)

  when_refused : (tests ≡ 0 → ⊥) → given ≡ refused tests s r o.row_out o.column_out
  unfolding given tests offered
  when_refused h = rw (ne_eqb (first (offer_tests s o.datagram r (length o.row_out) (length o.column_out))) 0 h)

  zero-taken : given.sent.number ≡ 0 → tests ≡ 0
  zero-taken e = go (eqb tests 0) refl
    where
      go : (b : Bool) → eqb tests 0 ≡ b → tests ≡ 0
      go true q = eqb-true tests 0 q
      go false q = absurd (eqb-false tests 0 q (ap (λ (y : Outcome). y.sent.number) (sym (when_refused (eqb-false tests 0 q))) ∙ e))

goes-next : (u : SetUp) (x : Life) (o : Offer) → Goes u x → Goes u (next x o)
unfolding given tests
goes-next u x o h = go (eqb (tests x.sender x.room o) 0) refl
  where
    t : ℕ
    t = tests x.sender x.room o

    go : (b : Bool) → eqb t 0 ≡ b → Goes u (next x o)
    go true q =
        let e = eqb-true t 0 q in
        let f = when_taken x.sender x.room o e in
        let k = offer-taken x.sender o.datagram x.room (length o.row_out) (length o.column_out) e in
        rw f (record { same = h.same; lives = lives-next x.sender x.room x.taken h.lives o.datagram k.payload })
    go false q =
        let n = eqb-false t 0 q in
        let f = when_refused x.sender x.room o n in
        rw (f, q) (record { same = h.same; lives = h.lives })

goes_after : (u : SetUp) (os : List Offer) (x : Life) → Goes u x → Goes u (after x os)
goes_after u [] x h = h
goes_after u (o ∷ os) x h = goes_after u os (next x o) (goes-next u x o h)

opens : (u : SetUp) (r : Room) → (opening u r).sent.number ≡ 0 → Goes u (life u r [])
unfolding opened
opens u r e = go (eqb (first (open_tests s r)) 0) refl
  where
    s : Sender
    s = fresh u.first u.arrangement u.l u.d u.p

    go : (b : Bool) → eqb (first (open_tests s r)) 0 ≡ b → Goes u (life u r [])
    go true q = rw q (record { same = refl; lives = lives_open u.first u.arrangement u.l u.d u.p r (eqb-true _ _ q) })
    go false q = absurd (eqb-false _ _ q (rw q at e))

goes-life : (u : SetUp) (r : Room) → (opening u r).sent.number ≡ 0 → (os : List Offer) → Goes u (life u r os)
goes-life u r e os = goes_after u os (life u r []) (opens u r e)

-- request 4: with each packet that is taken goes out what the schedule has for it, as the base writes it, and nothing else
pub sends : (u : SetUp) (r : Room) → (opening u r).sent.number ≡ 0 → (os : List Offer) (o : Offer) → (answer (life u r os) o).sent.number ≡ 0
    → Sends u ((life u r os).taken ++ (o.datagram ∷ [])) (length (life u r os).taken) o (answer (life u r os) o)
unfolding given tests
sends u r e os o z =
    let x = life u r os in
    let h = goes-life u r e os in
    let t = zero-taken x.sender x.room o z in
    let k = offer-taken x.sender o.datagram x.room (length o.row_out) (length o.column_out) t in
    let y = sends-taken x.sender x.room x.taken h.lives o k in
    rw (when_taken x.sender x.room o t) (subst (λ (q : SetUp). Sends q (x.taken ++ (o.datagram ∷ [])) (length x.taken) o (took x.sender o.datagram o.row o.column x.room o.row_out o.column_out)) h.same y)

-- and every packet is taken whose turn it is: with outputs of 28 + P bytes an offer meets no refusal but 6 to 9, and 13
pub takes : (u : SetUp) (r : Room) → (opening u r).sent.number ≡ 0 → (os : List Offer) (o : Offer)
    → parity_header_size + u.p ≤ length o.row_out → parity_header_size + u.p ≤ length o.column_out
    → first (offer_tests (life u r os).sender o.datagram (life u r os).room (length o.row_out) (length o.column_out))
    ≡ first (media_tests u.p o.datagram ++ number_tests (life u r os).sender o.datagram)
takes u r e os o hr hc =
    let x = life u r os in
    let h = goes-life u r e os in
    let p = ap (λ (q : SetUp). q.p) h.same in
    takes-every x.sender x.room x.taken h.lives o.datagram (length o.row_out) (length o.column_out) (rw p hr) (rw p hc)
    ∙ ap (λ (n : ℕ). first (media_tests n o.datagram ++ number_tests x.sender o.datagram)) p

-- ---- the schedule: each group goes out with one packet and no other, and nothing else does
-- a column goes out with the packet with which it is due
pub column-once : (a : Arrangement) (L D : ℕ) → 0 < L → 0 < D → (c : Cycle) → c.column < L → (i : ℕ)
    → (column_due a L D i ≡ some c → due a L D c ≡ i) × (due a L D c ≡ i → column_due a L D i ≡ some c)
column-once a L D l d c h i = (λ e. (column_due-due L D l d a i c e).at, λ e. due-column_due L D l d a i c (record { inside = h; at = e }))

-- what goes out on the column stream is a column of the profile
pub column-inside : (a : Arrangement) (L D : ℕ) → 0 < L → 0 < D → (c : Cycle) (i : ℕ) → column_due a L D i ≡ some c → c.column < L
column-inside a L D l d c i e = (column_due-due L D l d a i c e).inside

-- a row goes out with its last member, where L is at least 4
pub row-once : (L : ℕ) → 4 ≤ L → (q i : ℕ) → (row_due L i ≡ some (q * L) → q * L + (L - 1) ≡ i) × (q * L + (L - 1) ≡ i → row_due L i ≡ some (q * L))
row-once L h q i = (
  λ e. let f = row_due-last L 1 (omega arith) (omega arith) Aligned i (q * L) e in omega arith,
  λ e. rw (← e) (last-row_due L 1 (omega arith) (omega arith) Aligned q h),
)

-- what goes out on the row stream is a row, and none does where L is below 4
pub row_inside : (L : ℕ) → 0 < L → (b i : ℕ) → row_due L i ≡ some b → i / L * L ≡ b
row_inside L l b i e = (row_due-last L 1 l (omega arith) Aligned i b e).0

pub row-never : (L : ℕ) → 0 < L → L < 4 → (i : ℕ) → row_due L i ≡ none
row-never L l h i = no-row_due L 1 l (omega arith) Aligned i h
