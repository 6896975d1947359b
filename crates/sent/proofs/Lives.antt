-- What holds of a sender from its opening on, offer after offer.
use Rattle.std.specs.Prelude.{◌≡◌, refl, true, false, ◌||◌, List, [], ◌∷◌, ◌++◌, ℕ, zero, suc, ◌+◌, ◌*◌, ◌%◌, ◌^◌, ◌≤◌, ◌<◌, leb, length, get_or, take, drop, replicate}
use Rattle.std.proofs.Common.{sym, ◌∙◌, ap, mul-le-mul_left, arith, length-append, length-drop, le-ltb, lt-ltb, le-leb}
use Rattle.std.proofs.Math.Nat.{mod-add-mod}
use Rattle.std.proofs.lemmas.List.{length-replicate, get_or-replicate, get_or_at}
use Rattle.std.proofs.Math.ListN.{get_or-append}
use Rattle.answer.specs.First.{first, first_past, first-end, first-none, first-front, first_goes}
use Rattle.sequence.specs.Lists.{all}
use Rattle.rtp.specs.Fec.{parity_header_size}
use Rattle.rtp.specs.Faults.{media_tests}
use Rattle.window.specs.Limits.{width}
use Rattle.calls.specs.Call.{zeroed}
use Rattle.schedule.specs.Schedule.{onward}
use Rattle.schedule.specs.Numbers.{Small}
use Rattle.sender.specs.declared.Sender.{Sender}
use Rattle.sender.specs.Sums.{Room, slots, sum_at, together}
use Rattle.sender.specs.Call.{arrangement_of, next_sender, short_room, short_output, astray, standing_tests, number_tests, offer_tests, open_tests, cleared, fresh, absorbed, set_up_tests}
use Rattle.sender.specs.Ready.{Payload, set_up_good, roomy_of, small_of}
use Rattle.sender.specs.Absorbed.{ready-absorbed}
use Rattle.sent.specs.Kept.{Kept, kept-start, kept_next}
use Rattle.sent.specs.Room.{empty, Sized, together-laws}
use Rattle.sent.proofs.Room.{absorbs}
use Rattle.sent.specs.Life.{datagram_at}
use Rattle.sent.specs.Lives.{packets, packets-sized, GoesOn, Lives}

-- ---- the opening
length-zeroed : (n : ℕ) (l : List ℕ) → n ≤ length l → length (zeroed n l) ≡ length l
length-zeroed n l h = length-append (replicate n 0) (drop n l) ∙ omega (arith, length-replicate {A = ℕ} n 0, length-drop n l)

get_or-zeroed : (n : ℕ) (l : List ℕ) (i : ℕ) → i < n → get_or (zeroed n l) i 0 ≡ 0
get_or-zeroed n l i h = get_or-append (replicate n 0) (drop n l) 0 i (omega (arith, length-replicate {A = ℕ} n 0)) ∙ get_or-replicate n i 0 0 h

pub lives_open : (first' a l d p : ℕ) (r : Room) → first (open_tests (fresh first' a l d p) r) ≡ 0 → Lives (fresh first' a l d p) (cleared (fresh first' a l d p) r) []
lives_open first' a l d p r e =
    let s = fresh first' a l d p in
    let tests = first-front (set_up_tests s) ((4, short_room s r) ∷ []) e in
    let u = set_up_good s tests in
    let q = roomy_of s r (first-none (open_tests s r) (tt, (tt, (tt, tt))) e).1.1.0 in
    let w = small_of s u in
    record {
      set_up = tests;
      taken = refl;
      ready = record {
        set_up = u;
        roomy = record {
          payloads-long = rw (length-zeroed (slots l * p) r.payloads q.payloads-long) q.payloads-long;
          timestamps-long = rw (length-zeroed (slots l) r.timestamps q.timestamps-long) q.timestamps-long;
          lengths-long = rw (length-zeroed (slots l) r.lengths q.lengths-long) q.lengths-long;
          longest-long = rw (length-zeroed (slots l) r.longest q.longest-long) q.longest-long;
        };
        at_low = let m = mul-le-mul_left l w.rows in omega (arith, w.columns);
        within = λ i h. rw (get_or-zeroed (slots l) r.longest i h) (omega arith);
      };
      kept = λ g h. kept-start together (empty p) (Sized p) (together-laws p) (packets p g) (packets-sized p g) (arrangement_of s) l d w.columns w.rows (sum_at p (cleared s r));
    }

-- ---- a packet that is taken
module _ (gs : List (List ℕ)) (x : List ℕ) where
  length-snoc : length (gs ++ (x ∷ [])) ≡ length gs + 1
  length-snoc = length-append gs (x ∷ [])

  pub last_of : datagram_at (gs ++ (x ∷ [])) (length gs) ≡ x
  last_of = get_or_at gs x [] [] (length gs) refl

  pub goes-front : (g : ℕ → List ℕ) → GoesOn g (gs ++ (x ∷ [])) → GoesOn g gs
  goes-front g h j k = h j (omega (arith, length-snoc)) ∙ get_or-append gs (x ∷ []) [] j k

  pub goes_last : (g : ℕ → List ℕ) → GoesOn g (gs ++ (x ∷ [])) → g (length gs) ≡ x
  goes_last g h = h (length gs) (omega (arith, length-snoc)) ∙ last_of

module _ (s : Sender) (r : Room) (gs : List (List ℕ)) (v : Lives s r gs) where
  w : Small s.l s.d
  w = small_of s v.ready.set_up

  -- the sums after a packet
  pub kept-after : (x : List ℕ) → Payload s.p (length x) → (g : ℕ → List ℕ) → GoesOn g gs → g (length gs) ≡ x
      → Kept together (empty s.p) (Sized s.p) (together-laws s.p) (packets s.p g) (packets-sized s.p g) (arrangement_of s) s.l s.d (suc (length gs)) (onward (s.l * s.d) s.at) (sum_at s.p (absorbed s x r))
  kept-after x u g h e =
      kept_next together (empty s.p) (Sized s.p) (together-laws s.p) (packets s.p g) (packets-sized s.p g) (arrangement_of s) s.l s.d w.columns w.rows (length gs) s.at (sum_at s.p r) (v.kept g h) (sum_at s.p (absorbed s x r))
      (rw e (absorbs s r x v.ready u (packets s.p g) (packets-sized s.p g)))

  pub lives-next : (x : List ℕ) → Payload s.p (length x) → Lives (next_sender s) (absorbed s x r) (gs ++ (x ∷ []))
  lives-next x u =
      let more : length (gs ++ (x ∷ [])) ≡ suc (length gs) = omega (arith, length-snoc gs x) in
      let q = ready-absorbed s r x v.ready u in
      let own : ℕ → List ℕ = λ j. datagram_at (gs ++ (x ∷ [])) j in
      let k = kept-after x u own (λ j h. get_or-append gs (x ∷ []) [] j h) (last_of gs x) in
      record {
        set_up = v.set_up;
        taken = ap (λ (n : ℕ). (n + 1) % 2 ^ width) v.taken ∙ mod-add-mod (length gs) (2 ^ width) 1 ∙ ap (λ (n : ℕ). n % 2 ^ width) (sym (length-snoc gs x));
        ready = record {
          set_up = record { profile = q.set_up.profile; p-low = q.set_up.p-low; p-high = q.set_up.p-high };
          roomy = record { payloads-long = q.roomy.payloads-long; timestamps-long = q.roomy.timestamps-long; lengths-long = q.roomy.lengths-long; longest-long = q.roomy.longest-long };
          at_low = k.place.bounded;
          within = q.within;
        };
        kept = λ g h. rw more (kept-after x u g (goes-front gs x g h) (goes_last gs x g h));
      }

  -- ---- it takes every packet whose turn it is: with outputs that are long enough an offer meets none of refusals 1 to 5
  room-enough : short_room s r ≡ false
  room-enough =
      let q = v.ready.roomy in
      rw (le-ltb (length r.payloads) (slots s.l * s.p) q.payloads-long, le-ltb (length r.timestamps) (slots s.l) q.timestamps-long, le-ltb (length r.lengths) (slots s.l) q.lengths-long, le-ltb (length r.longest) (slots s.l) q.longest-long)

  all-low : (p n : ℕ) (l : List ℕ) → n ≤ length l → ((i : ℕ) → i < n → get_or l i 0 ≤ p) → all (λ i. leb i p) (take n l) ≡ true
  all-low p zero l h k = refl
  all-low p (suc n) [] h k = absurd (omega (arith, h))
  all-low p (suc n) (a ∷ l) h k = rw (le-leb a p (k 0 (omega arith))) (all-low p n l (omega arith) (λ i j. k (suc i) (omega arith)))

  in_order : astray s r.longest ≡ false
  in_order =
      let q = v.ready in
      rw (lt-ltb s.at (3 * (s.l * s.d)) q.at_low, all-low s.p (slots s.l) r.longest q.roomy.longest-long q.within)

  pub takes : (x : List ℕ) (row column : ℕ) → parity_header_size + s.p ≤ row → parity_header_size + s.p ≤ column
      → first (offer_tests s x r row column) ≡ first (media_tests s.p x ++ number_tests s x)
  takes x row column hr hc =
      let four : (short_room s r || short_output s row || short_output s column) ≡ false = rw (room-enough, le-ltb row (parity_header_size + s.p) hr, le-ltb column (parity_header_size + s.p) hc) in
      let none : first (standing_tests s r row column) ≡ 0 =
      sym (first_past 0 4 _ _ four (first_past 0 5 _ _ in_order first-end) ∙ first_goes (set_up_tests s) ((4, short_room s r || short_output s row || short_output s column) ∷ (5, astray s r.longest) ∷ []) (tt, (tt, tt)) v.set_up) in
      sym (first_goes (standing_tests s r row column) (media_tests s.p x ++ number_tests s x) (tt, (tt, (tt, (tt, tt)))) none)
