-- The claims of Life.antt, proved: every fair event keeps a window over its feed.
use Rattle.std.specs.Prelude.{◌≡◌, refl, ◌≢◌, ◌⊎◌, false, List, [], ◌∷◌, ◌++◌, map, ℕ, ◌+◌, ◌-◌, ◌%◌, ◌^◌, ◌<◌, ◌≤◌, length, get_or}
use Rattle.std.proofs.Common.{sym, ap, ◌∙◌, subst, inl, inr, ⊎_elim, true≢false, append-nil, mod-eq_of_lt, arith, length-append, get_or-append-add, lt-ltb}
use mathlib.Core.List.Memᴰ
use Rattle.std.proofs.Math.Decide.{ℕ_discrete, dec_lt}
use Rattle.std.proofs.lemmas.List.{length-map}
use Rattle.std.proofs.Math.ListN.{get_or-append}
use Rattle.answer.specs.declared.Answer.TheVariants.{Done, Refused}
use Rattle.answer.specs.Number.{number_of}
use Rattle.answer.specs.First.{first}
use Rattle.sequence.specs.Lists.{up_to}
use Rattle.sequence.proofs.Lists.{length-up_to}
use Rattle.sequence.specs.Wrap.{number_at}
use Rattle.sequence.proofs.Wrap.{number_at-onward}
use Rattle.rtp.specs.Rtp.{sequence_number}
use Rattle.rtp.specs.Fec.{column, row, snbase}
use Rattle.window.specs.declared.Window.{Window}
use Rattle.window.specs.Limits.{width}
use Rattle.window.specs.Store.{Store}
use Rattle.window.specs.Group.{position}
use Rattle.calls.specs.Content.{content_at, same_recovery}
use Rattle.calls.specs.Accept.{recovery_of}
use Rattle.calls.specs.Datagram.{media_packet}
use Rattle.calls.specs.State.{recount}
use Rattle.calls.specs.Call.{Outcome, standing_tests, media_offer_tests, parity_offer_tests, offered_media, offered_parity, asked, opened, cleared}
use Rattle.calls.proofs.Passed.{media-passed, parity-passed, none_first}
use Rattle.calls.specs.Move.{Moved, move_tests, advanced, leaving, moved_on, moved}
use Rattle.guarantee.proofs.View.{mark-one}
use Rattle.guarantee.specs.Order.{stands}
use Rattle.guarantee.proofs.Order.{set_up_passes, start-limits, start-ordered}
use Rattle.guarantee.proofs.Recount.{fills-on, holds_on}
use Rattle.guarantee.specs.Accepted.{Settled}
use Rattle.guarantee.proofs.Lying.{recovery_self, media-believed, parity-lies, contradicted}
use Rattle.guarantee.specs.Offers.{parity_seen}
use Rattle.guarantee.proofs.Offers.{media-kept, parity-kept, media-accepted, parity-accepted}
use Rattle.guarantee.specs.Sent.{seen}
use Rattle.guarantee.proofs.Sent.{parity-read}
use Rattle.guarantee.proofs.Kept.{recovery_agrees, holds_again}
use Rattle.guarantee.proofs.Opening.{opening, opened-start}
use Rattle.guarantee.specs.Demand3.{Port, mediaPort, columnPort, rowPort, Offer, call_of, offered, Stretch, Fills, content_sent, UnalteredMedia, UnalteredParity, UnalteredOn, Unaltered, mark_at}
use Rattle.guarantee.specs.Start.{Start, SameSetUp}
use Rattle.guarantee.proofs.Theorem.{demand3-from}
use Rattle.guarantee.specs.Moving.{onward, slot_of}
use Rattle.guarantee.specs.Life.{Event, offer, move, Life, born, moving, after_one, after, Feed, Feeds, has_place, under, Fair, AllFair, Lived, ClaimOutside, ClaimLife, ClaimBelieved, ClaimOneEach, next_gets, ClaimThen}
use Rattle.guarantee.proofs.Slots.{map_at, slot_read}
use Rattle.guarantee.proofs.Moved.{move_ways, move-done, move-within, moved-set_up, moved-start, leaving-sent}
use Rattle.guarantee.specs.Lived.{Again}

module _ {w : Window} {t : Stretch} {s : Store} (S : Start w t s) where
  -- an accepted offer of an unaltered packet leaves one
  settled_again : (o : Offer) → Unaltered w t o → {more : ℕ} {x : Outcome} → Settled w w.present s (seen w o) more x → Again w t x
  settled_again o ok {x = x} z = rw z.window (
    refl,
    record {
      base-fits = S.base-fits;
      fills = fills-on w z.present z.used t S.fills;
      passes = none_first (standing_tests (recount w z.present z.used) x.store 0 0) (stands w z.present z.used x.store (set_up_passes w s S.passes) z.order);
      holds = holds_on w z.present z.used t
          (holds_again (start-limits S) S.fills (start-ordered S).good S.holds {offers = o ∷ []} (λ p m. rw (Memᴰ.eq_of_singleton m) ok) x.store z.runs);
    },
  )

  -- a fair media offer leaves one
  media_again : (g : List ℕ) → UnalteredMedia w t g ⊎ (number_of (offered_media w g s).answer ≢ 0) → Again w t (offered_media w g s)
  media_again g fair = go (ℕ_discrete (first (media_offer_tests w g s)) 0)
    where
      go : Dec (first (media_offer_tests w g s) ≡ 0) → Again w t (offered_media w g s)
      go (yes e) =
          let z = media-accepted w S.base-fits w.present w.in_use s g e in
          settled_again (record { port = mediaPort; datagram = g }) (⊎_elim (λ u. u) (λ no. absurd (no (ap number_of z.answer))) fair) z
      go (no n) = rw (media-kept w g s n) (refl, S)

  -- so does a parity offer
  parity_again : (o : Offer) (stream : ℕ) → stream ≤ 1 → seen w o ≡ parity_seen w stream o.datagram → Unaltered w t o ⊎ (number_of (offered_parity stream w o.datagram s).answer ≢ 0)
      → Again w t (offered_parity stream w o.datagram s)
  parity_again o stream hs same fair = go (ℕ_discrete (first (parity_offer_tests w stream o.datagram s)) 0)
    where
      go : Dec (first (parity_offer_tests w stream o.datagram s) ≡ 0) → Again w t (offered_parity stream w o.datagram s)
      go (yes e) =
          let z = parity-accepted w S.base-fits w.present w.in_use s o.datagram stream hs e in
          settled_again o (⊎_elim (λ u. u) (λ no. absurd (no (ap number_of z.answer))) fair) (subst (λ q. Settled w w.present s q 0 (offered_parity stream w o.datagram s)) (sym same) z)
      go (no n) = rw (parity-kept stream w o.datagram s n) (refl, S)

  -- on each port
  offer_again : (p : Port) (g : List ℕ) → UnalteredOn w t p g ⊎ (number_of (call_of p w g s).answer ≢ 0) → Again w t (call_of p w g s)
  offer_again mediaPort g fair = media_again g fair
  offer_again columnPort g fair = parity_again (record { port = columnPort; datagram = g }) column (omega arith) refl fair
  offer_again rowPort g fair = parity_again (record { port = rowPort; datagram = g }) row (omega arith) refl fair

-- ---- a window over its feed
-- one window value has the set-up numbers of another, and that those of a third
set_up_then : (v x w : Window) → SameSetUp v x → SameSetUp x w → SameSetUp v w
set_up_then v x w e f = e ∙ ap (λ z. recount z v.present v.in_use) f

-- a base that moved on, and on again
advanced_twice : (w v : Window) (a by : ℕ) → SameSetUp v (advanced a 0 w) → SameSetUp (advanced by 0 v) (advanced (a + by) 0 w)
advanced_twice w v a by e =
    let p = v.present - 0 in
    let u = v.in_use in
    ap (λ z. recount (advanced by 0 z) p u) e
    ∙ (λ k. record { base = number_at-onward width w.base a by k; ssrc = w.ssrc; l = w.l; d = w.d; p = w.p; n = w.n; k = w.k; present = p; in_use = u })

-- a feed fills every window of its P, from any packet on
feeds_fill : {p : ℕ} {feed : Feed} → Feeds p feed → (v : Window) → v.p ≡ p → (f : ℕ → ℕ) → Fills v (λ i. feed (f i))
feeds_fill F v e f = record { timestamp-fits = λ i h. F.timestamp-fits (f i); size = λ i h. rw e (F.size (f i)); bytes = λ i h. F.bytes (f i) }

-- the packets present are those sent
lived : {w : Window} {feed : Feed} (x : Life) → SameSetUp x.window (advanced (length x.gone) 0 w) → Start x.window (under feed x) x.store
    → ((j : ℕ) → j < length x.gone → (get_or x.gone j [] ≡ []) ⊎ (get_or x.gone j [] ≡ media_packet (number_at width w.base j) w.ssrc (content_sent w feed j))) → Lived w feed x
lived {w} {feed} x e S left = record {
  set_up = e;
  start = S;
  present = subst (λ v. (i : ℕ) → i < v.n → mark_at x.store i ≡ 1 → content_at v x.store i ≡ content_sent v (under feed x) i) e S.holds.media;
  left = left;
}

module _ {w : Window} {feed : Feed} (F : Feeds w.p feed) (x : Life) (now : Lived w feed x) where
  -- after an offer
  lived-offer : (o : Offer) → Fair feed x (offer o) → Lived w feed (after_one x (offer o))
  lived-offer o fair =
      let z = offer_again now.start o.port o.datagram fair in
      lived (after_one x (offer o)) (set_up_then (offered o x.window x.store).window x.window (advanced (length x.gone) 0 w) z.0 now.set_up) z.1 now.left

  -- after a move that was refused: nothing left
  lived-refused : Lived w feed (record { window = x.window; store = x.store; gone = x.gone ++ [] })
  lived-refused = subst (λ l. Lived w feed (record { window = x.window; store = x.store; gone = l })) (sym (append-nil x.gone)) now

  -- after a move that was carried out
  module _ (by : ℕ) (out sizes : List ℕ) (hb : by ≤ x.window.n) where
    -- what it left
    abbrev next : Moved
    next = moved_on x.window by x.store out sizes

    -- the datagrams that it wrote
    abbrev slots : List (List ℕ)
    slots = map (slot_of x.window next) (up_to by)

    -- one for each position
    length-slots : length slots ≡ by
    length-slots = length-map (up_to by) (slot_of x.window next) ∙ length-up_to by

    -- so many more have left
    length-gone : length (x.gone ++ slots) ≡ length x.gone + by
    length-gone = length-append x.gone slots ∙ ap (λ n. length x.gone + n) length-slots

    -- the base moved on, from the opening's by all that left
    base_moved : SameSetUp next.window (advanced (length (x.gone ++ slots)) 0 w)
    base_moved = subst (λ n. SameSetUp next.window (advanced n 0 w)) (sym length-gone)
        (set_up_then next.window (advanced by 0 x.window) (advanced (length x.gone + by) 0 w) (moved-set_up now.start by hb out sizes) (advanced_twice w x.window (length x.gone) by now.set_up))

    -- the stretch that the window stands over moved on
    moved-over : onward by (under feed x) ≡ onward (length (x.gone ++ slots)) feed
    moved-over = λ k i. feed (same i k)
      where
        same : (i : ℕ) → length x.gone + (by + i) ≡ length (x.gone ++ slots) + i
        same i = omega (arith, length-gone)

    -- and it is a start for that
    moved_starts : Start next.window (onward (length (x.gone ++ slots)) feed) next.store
    moved_starts = subst (λ f. Start next.window f next.store) moved-over
        (moved-start now.start by hb out sizes (feeds_fill F next.window (ap (λ v. v.p) base_moved) (λ i. length x.gone + (by + i))))

    -- what leaves is what was sent, by the opening's base
    slot-sent : (i : ℕ) → i < by → (get_or slots i [] ≡ []) ⊎ (get_or slots i [] ≡ media_packet (number_at width w.base (length x.gone + i)) w.ssrc (content_sent w feed (length x.gone + i)))
    slot-sent i h =
        let e : get_or slots i [] ≡ leaving x.window x.store i = map_at (slot_of x.window next) [] by i h ∙ slot_read x.window x.store by out sizes i h in
        let a = length x.gone in
        let p : media_packet (number_at width x.window.base i) x.window.ssrc (content_sent x.window (under feed x) i) ≡ media_packet (number_at width w.base (a + i)) w.ssrc (content_sent w feed (a + i)) =
        ap (λ v. media_packet (number_at width v.base i) v.ssrc (content_sent v (under feed x) i)) now.set_up ∙ ap (λ n. media_packet n w.ssrc (content_sent w feed (a + i))) (number_at-onward width w.base a i) in
        ⊎_elim (λ z. inl (e ∙ z.1)) (λ z. inr (e ∙ z.1 ∙ p)) (leaving-sent now.start by hb i h)

    -- with what left before
    slots-sent : (j : ℕ) → j < length (x.gone ++ slots) → (get_or (x.gone ++ slots) j [] ≡ []) ⊎ (get_or (x.gone ++ slots) j [] ≡ media_packet (number_at width w.base j) w.ssrc (content_sent w feed j))
    slots-sent j h = go (dec_lt j (length x.gone))
      where
        go : Dec (j < length x.gone) → (get_or (x.gone ++ slots) j [] ≡ []) ⊎ (get_or (x.gone ++ slots) j [] ≡ media_packet (number_at width w.base j) w.ssrc (content_sent w feed j))
        go (yes l) = rw (get_or-append x.gone slots [] j l) (now.left j l)
        go (no l) =
            let e : length x.gone + (j - length x.gone) ≡ j = omega arith in
            subst (λ m. (get_or (x.gone ++ slots) m [] ≡ []) ⊎ (get_or (x.gone ++ slots) m [] ≡ media_packet (number_at width w.base m) w.ssrc (content_sent w feed m))) e
            (rw (get_or-append-add x.gone slots (j - length x.gone) []) (slot-sent (j - length x.gone) (omega (arith, length-gone))))

    -- so the life goes on
    lived-done : Lived w feed (record { window = next.window; store = next.store; gone = x.gone ++ slots })
    lived-done = lived (record { window = next.window; store = next.store; gone = x.gone ++ slots }) base_moved moved_starts slots-sent

  -- after any move
  lived-move : (by : ℕ) (out sizes : List ℕ) → Lived w feed (after_one x (move by out sizes))
  lived-move by out sizes = go (move_ways x.window by x.store out sizes)
    where
      go : (first (move_tests x.window by x.store out sizes) ≡ 0)
          ⊎ (moved x.window by x.store out sizes ≡ record { answer = Refused (first (move_tests x.window by x.store out sizes)); window = x.window; store = x.store; out = out; sizes = sizes })
          → Lived w feed (after_one x (move by out sizes))
      go (inl z) = subst (λ y. Lived w feed (moving x by y)) (sym (move-done x.window by x.store out sizes z)) (lived-done by out sizes (move-within x.window by x.store out sizes z))
      go (inr e) = subst (λ y. Lived w feed (moving x by y)) (sym e) lived-refused

  -- after any event
  lived-one : (e : Event) → Fair feed x e → Lived w feed (after_one x e)
  lived-one (offer o) fair = lived-offer o fair
  lived-one (move by out sizes) fair = lived-move by out sizes

-- after any list of them
lived-after : {w : Window} {feed : Feed} → Feeds w.p feed → (events : List Event) (x : Life) → Lived w feed x → AllFair feed x events → Lived w feed (after x events)
unfolding after AllFair
lived-after F [] x now fair = now
lived-after F (e ∷ events) x now fair = lived-after F events (after_one x e) (lived-one F x now e fair.0) fair.1

-- ---- from an opening
-- an opening that answered 0 begins over the feed's first packet
lived-born : (w : Window) (lent : Store) {feed : Feed} → w.base < 2 ^ 16 → Feeds w.p feed → w.present ≡ 0 → w.in_use ≡ 0 → (opened w lent).answer ≡ Done 0 0 → Lived w feed (born (opened w lent))
lived-born w lent {feed} based F a u fresh =
    let e = opening w lent fresh in
    subst (λ y. Lived w feed (born y)) (sym e.1) (lived (record { window = w; store = cleared w lent; gone = [] }) first-base
    (opened-start w lent (onward 0 feed) based (feeds_fill F w refl (λ i. 0 + i)) e.0 a u) (λ j h. absurd (omega arith)))
  where
    first-base : SameSetUp w (advanced 0 0 w)
    first-base =
        let z : w.base + 0 ≡ w.base = omega arith in
        let b : w.base ≡ number_at width w.base 0 = sym (ap (λ n. n % 2 ^ width) z ∙ mod-eq_of_lt based) in
        λ k. record { base = b k; ssrc = w.ssrc; l = w.l; d = w.d; p = w.p; n = w.n; k = w.k; present = w.present; in_use = w.in_use }

-- no packet present, and none written out, ever differs from the one sent
pub life : ClaimLife
life base ssrc l d p n k lent feed events x G =
    let w : Window = asked base ssrc l d p n k in
    subst (Lived w feed) G.is (lived-after G.feeds events (born (opened w lent)) (lived-born w lent G.base-fits G.feeds refl refl G.fresh) G.fair)

module _ {w : Window} {t : Stretch} {s : Store} (S : Start w t s) where
  -- from a start, an unaltered parity packet does not contradict its group
  parity-believed : (stream : ℕ) → stream ≤ 1 → (g : List ℕ) → UnalteredParity w t stream g → number_of (offered_parity stream w g s).answer ≢ 18
  parity-believed stream hs g u e =
      let z = parity-lies stream w g s e in
      let c = contradicted w s stream g z.1 in
      let r = parity-read (start-limits S) S.fills stream hs g u in
      let q = recovery_agrees w t s (λ i h n. S.holds.media i h (mark-one (start-ordered S).good i h n)) stream (snbase g) z.0 c.0 in
      true≢false (sym (recovery_self (recovery_of w.p g)) ∙ ap (λ v. same_recovery v (recovery_of w.p g)) (r.carries ∙ sym q) ∙ c.1)

  -- so no unaltered packet is answered 18
  offer-believed : (p : Port) (g : List ℕ) → UnalteredOn w t p g → number_of (call_of p w g s).answer ≢ 18
  offer-believed mediaPort g u = media-believed w g s
  offer-believed columnPort g u = parity-believed column (omega arith) g u
  offer-believed rowPort g u = parity-believed row (omega arith) g u

-- at any moment of a life
pub life-believed : ClaimBelieved
life-believed base ssrc l d p n k lent feed events x o G u = offer-believed (life base ssrc l d p n k lent feed events x G).start o.port o.datagram u

-- what the window has no place for is refused
outside-port : (w : Window) (s : Store) (p : Port) (g : List ℕ) → has_place w p g ≡ false → number_of (call_of p w g s).answer ≢ 0
outside-port w s mediaPort g out =
    let n : first (media_offer_tests w g s) ≢ 0 = λ e. true≢false (sym (lt-ltb (position w (sequence_number g)) w.n (media-passed w g s e).in_window) ∙ out) in
    rw (media-kept w g s n) n
outside-port w s columnPort g out = let n : first (parity_offer_tests w column g s) ≢ 0 = λ e. true≢false (sym (parity-passed w column g s e).in_window ∙ out) in rw (parity-kept column w g s n) n
outside-port w s rowPort g out = let n : first (parity_offer_tests w row g s) ≢ 0 = λ e. true≢false (sym (parity-passed w row g s e).in_window ∙ out) in rw (parity-kept row w g s n) n

-- on any port
pub outside : ClaimOutside
outside o w s = outside-port w s o.port o.datagram

-- one datagram for each position that leaves
pub one_each : ClaimOneEach
one_each count spoilt w by y = length-map (up_to by) (slot_of w y) ∙ length-up_to by

-- demand 3 of any list that follows
pub demand3-then : ClaimThen
demand3-then base ssrc l d p n k lent feed events answer x offers G ok few =
    demand3-from (next_gets answer x) (under feed x) offers (record { start = (life base ssrc l d p n k lent feed events x G).start; unaltered = ok; few_groups = few })
