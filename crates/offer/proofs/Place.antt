-- The ways through the tests of a datagram's place. Assumes nothing.
use mathlib.Core.Path.{◌≡◌, refl, sym, ap, ap₂, ◌∙◌}
use mathlib.Core.Bool.{Bool, true, false, not, ◌&&◌}
use mathlib.Core.List.{List}
use Prim.Native.Nat.{ℕ, ◌+◌, ◌*◌, ◌-◌, ◌^◌, ◌<◌, ◌≤◌}
use native.Mathlib.Omega.{arith}
use lib.Dec.{eqb, leb, ltb}
use lib.ListN.{length, get_or, take, drop, length-drop}
use borrow.Author.Tests.{lt-ltb, le-ltb, eq-eqb, ne_eqb, not-false, ltb-true, le-leb}
use Rattle.std.specs.Prelude.{Result, Ok, Err}
use Rattle.answer.specs.declared.Refusal.{Refusal}
use Rattle.answer.specs.declared.Refusal.TheVariants.{Outside, Repeated, Differs, Contradicts, NoRecord}
use Rattle.answer.specs.Refused.{refusal_number}
use Rattle.answer.specs.First.{first, first_hit, first_past, first-end}
use Rattle.xor.specs.Same.{same}
use Rattle.sequence.specs.Lists.{up_to, any}
use Rattle.rtp.specs.Rtp.{rtp_header_size, sequence_number, timestamp}
use Rattle.rtp.specs.Fec.{parity_header_size, snbase, length_recovery, timestamp_recovery}
use Rattle.window.specs.declared.Look.{Look}
use Rattle.window.specs.declared.Record.{Record}
use Rattle.window.specs.declared.Window.{Window}
use Rattle.window.specs.Limits.{width, least_missing}
use Rattle.window.specs.Store.{Store, stored, timestamp_at, length_at}
use Rattle.window.specs.Bounds.{SetUp}
use Rattle.window.specs.Group.{position, group, inside, is_missing, missing}
use Rattle.window.specs.Look.{look, at_least, waits-is, lacks_is}
use Rattle.window.specs.Plain.{inside_of}
use Rattle.calls.specs.Call.{media_place_tests, parity_place_tests, same_content, content_at, holds, holds_same, contradicts}
use Rattle.calls.specs.Accept.{content_of, recovery_of}
use Rattle.calls.specs.Content.{Recovery, same_recovery, recovery_over}
use Rattle.xor.specs.Xor.{padded}
use Rattle.table.specs.declared.Row.{Row}
use Rattle.table.specs.View.{scatter}
use Rattle.table.specs.Apart.{Fits}
use Rattle.offer.specs.Rows.{Fitting, row_holds, row_same, Found}
use Rattle.offer.proofs.Tests.{rest-is, rest-same}
use Rattle.offer.proofs.Scans.{same_rows, holds_rows}

-- ---- media
module _ (w : Window) (g : List ℕ) (s : Store) (i : ℕ) (e : i ≡ position w (sequence_number g)) where
  pub outside : w.n ≤ i → 13 ≡ first (media_place_tests w g s)
  outside h = first_hit 13 _ _ (ap not (le-ltb (position w (sequence_number g)) w.n (rw e at h)))

  module _ (h : i < w.n) where
    past_13 : (r : ℕ) → r ≡ first (drop 1 (media_place_tests w g s)) → r ≡ first (media_place_tests w g s)
    past_13 r k = first_past r 13 _ _ (ap not (lt-ltb (position w (sequence_number g)) w.n (rw e at h))) k

    pub free : get_or s.marks i 0 ≡ 0 → 0 ≡ first (media_place_tests w g s)
    free m =
        let l : is_missing s.marks (position w (sequence_number g)) ≡ true = eq-eqb _ 0 (rw e at m) in
        past_13 0 (first_past 0 14 _ _ (rw l) (first_past 0 15 _ _ (ap not l) first-end))

    module _ (m : get_or s.marks i 0 ≡ 0 → ⊥) where
      held : not (is_missing s.marks (position w (sequence_number g))) ≡ true
      held = ap not (ne_eqb _ 0 (λ z. m (ap (λ (k : ℕ). get_or s.marks k 0) e ∙ z)))

      -- another length
      pub otherwise_long : (get_or s.lengths i 0 ≡ length g - rtp_header_size → ⊥) → 15 ≡ first (media_place_tests w g s)
      otherwise_long d =
          let f : eqb (length_at s (position w (sequence_number g))) (length (drop rtp_header_size g)) ≡ false = ne_eqb _ _ (λ z. d (ap (λ (k : ℕ). get_or s.lengths k 0) e ∙ z ∙ length-drop rtp_header_size g)) in
          past_13 15 (first_past 15 14 _ _ (rw (held, f) (none (eqb (timestamp_at s (position w (sequence_number g))) (timestamp g)) _)) (first_hit 15 _ _ held))
        where
          none : (b x : Bool) → (b && false && x) ≡ false
          none true x = refl
          none false x = refl

      module _ (ts : ℕ) (is : Bool) (et : ts ≡ timestamp g) (el : get_or s.lengths i 0 ≡ length g - rtp_header_size)
          (es : is ≡ same (take (length g - rtp_header_size) (drop (i * w.p) s.media)) (take (length g - rtp_header_size) (drop rtp_header_size g))) (fitting : Fitting rtp_header_size w.p g) (room : i * w.p + w.p ≤ length s.media) where
        alike : (eqb (get_or s.timestamps i 0) ts && is) ≡ same_content (content_at w s (position w (sequence_number g))) (content_of w.p g)
        alike =
            let same_length : eqb (get_or s.lengths i 0) (length (drop rtp_header_size g)) ≡ true = eq-eqb _ _ (el ∙ sym (length-drop rtp_header_size g)) in
            let payloads : is ≡ same (padded w.p (take (get_or s.lengths i 0) (drop (i * w.p) s.media))) (padded w.p (drop rtp_header_size g)) =
            es ∙ sym (rest-same rtp_header_size w.p (i * w.p) s.media g fitting room) ∙ ap (λ (n : ℕ). same (padded w.p (take n (drop (i * w.p) s.media))) (padded w.p (drop rtp_header_size g))) (sym el) in
            rw (← e, same_length, payloads, et) (and-on (eqb (get_or s.timestamps i 0) (timestamp g)) (same (padded w.p (take (get_or s.lengths i 0) (drop (i * w.p) s.media))) (padded w.p (drop rtp_header_size g))))
          where
            and-on : (a b : Bool) → (a && b) ≡ (a && true && b)
            and-on true b = refl
            and-on false b = refl

        pub repeated : (eqb (get_or s.timestamps i 0) ts && is) ≡ true → 14 ≡ first (media_place_tests w g s)
        repeated t = past_13 14 (first_hit 14 _ _ (rw (held, ← alike, t)))

        pub differs : (eqb (get_or s.timestamps i 0) ts && is) ≡ false → 15 ≡ first (media_place_tests w g s)
        differs t = past_13 15 (first_past 15 14 _ _ (rw (held, ← alike, t)) (first_hit 15 _ _ held))

-- ---- parity

-- a group of which one is missing is not contradicted
module _ (w : Window) (stream : ℕ) (g : List ℕ) (s : Store) (seen : Look) (el : seen ≡ look s.marks (group w stream (snbase g))) (lacks : Bool) (ek : lacks ≡ ltb 0 (at_least seen)) where
  lacks_any : lacks ≡ any (is_missing s.marks) (group w stream (snbase g))
  lacks_any = ek ∙ ap (λ (f : Look). ltb 0 (at_least f)) el ∙ lacks_is s.marks (group w stream (snbase g))

  pub uncontradicted : lacks ≡ true → false ≡ contradicts w stream g s
  uncontradicted e = rw (← lacks_any, e)

  -- a whole one is
  pub whole-group : lacks ≡ false → any (is_missing s.marks) (group w stream (snbase g)) ≡ false
  whole-group e = sym lacks_any ∙ e

  -- where it defines another recovery
  pub contradicted : lacks ≡ false → (b : ℕ) → b ≡ snbase g → (c : Recovery) → c ≡ recovery_of w.p g → (is : Bool) → is ≡ same_recovery (recovery_over w s (group w stream b)) c → not is ≡ contradicts w stream g s
  contradicted e b eb c ec is ei =
      let same : is ≡ same_recovery (recovery_over w s (group w stream (snbase g))) (recovery_of w.p g) = ei ∙ ap₂ (λ (n : ℕ) (r : Recovery). same_recovery (recovery_over w s (group w stream n)) r) eb ec in
      rw (← lacks_any, e, same)

-- the first of the tests
module _ (w : Window) (stream : ℕ) (g media timestamps lengths marks parity : List ℕ) (hs : List Row) (b : ℕ) (eb : b ≡ snbase g) where
  -- the tests over a table
  abbrev tests : List Record → List (ℕ × Bool)
  tests t = parity_place_tests w stream g (stored media timestamps lengths marks parity (scatter hs t))

  refuses : (e : Refusal) → ((t : List Record) → Fits t w.k hs → refusal_number e ≡ first (tests t)) → Found w stream g media timestamps lengths marks parity hs (Err e)
  refuses e is = record { is = is; inside = λ f h. never f h; looked = λ f h. never f h; room = λ f h. never f h }
    where
      never : {A : Type 0} (f : Look) → ◌≡◌ {A = Result Look Refusal} (Err e) (Ok f) → A
      never f h = absurd (let z : ◌≡◌ {A = ℕ} 0 1 = cc in omega arith)

  pub no_13 : inside w stream b ≡ false → Found w stream g media timestamps lengths marks parity hs (Err Outside)
  no_13 e = refuses Outside (λ t f. first_hit 13 _ _ (ap (λ (n : ℕ). not (inside w stream n)) (sym eb) ∙ ap not e))

  module _ (i : inside w stream b ≡ true) (same : Bool) (es : same ≡ any (row_same w.p parity hs stream g) (up_to (length hs))) where
    beyond_13 : (t : List Record) (r : ℕ) → r ≡ first (drop 1 (tests t)) → r ≡ first (tests t)
    beyond_13 t r k = first_past r 13 _ _ (ap (λ (n : ℕ). not (inside w stream n)) (sym eb) ∙ ap not i) k

    same-is : (t : List Record) → Fits t w.k hs → any (holds_same w (stored media timestamps lengths marks parity (scatter hs t)) stream g) (up_to w.k) ≡ same
    same-is t f = same_rows w stream g media timestamps lengths marks parity hs t f ∙ sym es

    pub no_14 : same ≡ true → Found w stream g media timestamps lengths marks parity hs (Err Repeated)
    no_14 e = refuses Repeated (λ t f. beyond_13 t 14 (first_hit 14 _ _ (same-is t f ∙ e)))

    module _ (other : same ≡ false) (held : Bool) (eh : held ≡ any (row_holds hs stream b) (up_to (length hs))) where
      beyond_14 : (t : List Record) → Fits t w.k hs → (r : ℕ) → r ≡ first (drop 2 (tests t)) → r ≡ first (tests t)
      beyond_14 t f r k = beyond_13 t r (first_past r 14 _ _ (same-is t f ∙ other) k)

      held-is : (t : List Record) → Fits t w.k hs → any (holds w (stored media timestamps lengths marks parity (scatter hs t)) stream (snbase g)) (up_to w.k) ≡ held
      held-is t f = holds_rows w stream (snbase g) media timestamps lengths marks parity hs t f ∙ ap (λ (n : ℕ). any (row_holds hs stream n) (up_to (length hs))) (sym eb) ∙ sym eh

      pub no_15 : held ≡ true → Found w stream g media timestamps lengths marks parity hs (Err Differs)
      no_15 e = refuses Differs (λ t f. beyond_14 t f 15 (first_hit 15 _ _ (held-is t f ∙ e)))

      module _ (new : held ≡ false) (lie : Bool) (ec : (parity : List ℕ) (t : List Record) → lie ≡ contradicts w stream g (stored media timestamps lengths marks parity t)) where
        beyond_15 : (t : List Record) → Fits t w.k hs → (r : ℕ) → r ≡ first (drop 3 (tests t)) → r ≡ first (tests t)
        beyond_15 t f r k = beyond_14 t f r (first_past r 15 _ _ (held-is t f ∙ new) k)

        pub no_18 : lie ≡ true → Found w stream g media timestamps lengths marks parity hs (Err Contradicts)
        no_18 e = refuses Contradicts (λ t f. beyond_15 t f 18 (first_hit 18 _ _ (sym (ec parity (scatter hs t)) ∙ e)))

        module _ (honest : lie ≡ false) (seen : Look) (el : seen ≡ look marks (group w stream b)) (waits : Bool) (ew : waits ≡ leb least_missing (at_least seen)) where
          beyond_18 : (t : List Record) → Fits t w.k hs → (r : ℕ) → r ≡ first (drop 4 (tests t)) → r ≡ first (tests t)
          beyond_18 t f r k = beyond_15 t f r (first_past r 18 _ _ (sym (ec parity (scatter hs t)) ∙ honest) k)

          seen-is : seen ≡ look marks (group w stream (snbase g))
          seen-is = el ∙ ap (λ (n : ℕ). look marks (group w stream n)) eb

          full_is : (leb least_missing (length (missing marks (group w stream (snbase g)))) && not (ltb w.in_use w.k)) ≡ (waits && not (ltb w.in_use w.k))
          full_is = ap (λ (t : Bool). t && not (ltb w.in_use w.k)) (sym (ew ∙ ap (λ (f : Look). leb least_missing (at_least f)) seen-is ∙ waits-is marks (group w stream (snbase g))))

          pub no_16 : (waits && not (ltb w.in_use w.k)) ≡ true → Found w stream g media timestamps lengths marks parity hs (Err NoRecord)
          no_16 e = refuses NoRecord (λ t f. beyond_18 t f 16 (first_hit 16 _ _ (full_is ∙ e)))

          pub none_of_them : w.base < 2 ^ width → SetUp w → (waits && not (ltb w.in_use w.k)) ≡ false → Found w stream g media timestamps lengths marks parity hs (Ok seen)
          none_of_them based u e = record {
            is = λ t f. beyond_18 t f 0 (first_past 0 16 _ _ (full_is ∙ e) first-end);
            inside = λ _ _. inside_of w based u stream (snbase g) (ap (inside w stream) (sym eb) ∙ i);
            looked = λ f h. sym (found f h) ∙ seen-is;
            room = λ f h l. ltb-true w.in_use w.k (not-false (ltb w.in_use w.k) (past waits (not (ltb w.in_use w.k)) (ew ∙ le-leb least_missing (at_least seen) (rw (found f h) l)) e));
          }
            where
              found : (f : Look) → ◌≡◌ {A = Result Look Refusal} (Ok seen) (Ok f) → seen ≡ f
              found f h = cc

              past : (a b : Bool) → a ≡ true → (a && b) ≡ false → b ≡ false
              past a b f h = rw f at h
