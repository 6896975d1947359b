-- The ways through an offer. Assumes nothing.
use mathlib.Core.Path.{◌≡◌, sym, ap, subst, ◌∙◌}
use mathlib.Core.Bool.{Bool, true, false, cond}
use mathlib.Core.List.{List, []}
use Prim.Native.Nat.{ℕ, ◌*◌, ◌<◌, ◌≤◌}
use native.Mathlib.Omega.{arith}
use lib.ListN.{length, set}
use lib.Seq.{paste}
use Rattle.std.specs.Prelude.{Option, Ok, Err}
use Rattle.answer.specs.declared.Refusal.{Refusal}
use Rattle.answer.specs.declared.Answer.TheVariants.{Done}
use Rattle.answer.specs.Refused.{refusal_number}
use Rattle.answer.proofs.Refused.{never_0}
use Rattle.answer.specs.First.{first}
use Rattle.rtp.specs.Fec.{snbase}
use Rattle.rtp.specs.Faults.{media_tests, parity_tests}
use Rattle.window.specs.declared.Record.{Record}
use Rattle.window.specs.declared.Sizes.{Sizes}
use Rattle.window.specs.declared.Window.{Window}
use Rattle.window.specs.Limits.{least_missing}
use Rattle.window.specs.Store.{Store, stored}
use Rattle.window.specs.Group.{group, missing}
use Rattle.window.specs.InOrder.{InOrder}
use Rattle.calls.specs.State.{State, scene, held_record, hold}
use Rattle.calls.specs.Settle.{settle}
use Rattle.calls.specs.Accept.{accept_media, accept_parity, first_free, recovery_of}
use Rattle.calls.specs.Call.{Outcome, standing_tests, media_place_tests, parity_place_tests, media_offer_tests, parity_offer_tests, refused, settled, begun, offered_media, offered_parity}
use Rattle.calls.proofs.Standing.{standing-good}
use Rattle.calls.proofs.Rest.{order-rest, held-rest}
use Rattle.table.specs.declared.Row.{Row}
use Rattle.table.specs.View.{scatter}
use Rattle.table.specs.Apart.{Fits, alike-scatter, alike-fits, length-scatter}
use Rattle.table.specs.Hold.{gap_from, first_free-rows, held_in_table}
use Rattle.order.specs.Stands.{Taken, Stands, Stood}
use Rattle.engine.specs.Round.{Parts, over, Serves}
use Rattle.offer.specs.declared.Offered.{Offered}
use Rattle.offer.specs.Offer.{left, outcome, Accepted, Kept, Offer}
use Rattle.offer.proofs.Tests.{standing-refuses, datagram-refuses, place_decides, media-numbered, parity-numbered, media-refused, media-taken, parity-refused, parity-taken}
use Rattle.offer.proofs.After.{plainly, take_none, take_more}

-- how long the parts are
abbrev pub sizes_by : Parts → ℕ → Sizes
sizes_by x len = record { media = length x.media; timestamps = length x.timestamps; lengths = length x.lengths; marks = length x.marks; parity = length x.parity; records = len }

-- ---- behind the test of order: the hand has its notes
module _ (w : Window) (x : Parts) (len : ℕ) (hs : List Row) (z : ℕ) (stood : Stood w (sizes_by x len) false x.lengths x.marks x.rows hs z) where
  -- the parts with the hand as it is then
  abbrev noted : Parts
  noted = record { media = x.media; timestamps = x.timestamps; lengths = x.lengths; marks = x.marks; parity = x.parity; rows = hs }

  over-same : (t : List Record) → over noted t ≡ over x t
  over-same t = ap (λ (u : List Record). stored x.media x.timestamps x.lengths x.marks x.parity u) (alike-scatter stood.alike t)

  standing-is : (t : List Record) → length t ≡ len → Taken t w.k x.rows → z ≡ first (standing_tests w (over x t) 0 0)
  standing-is t e k = stood.is x.media x.timestamps x.parity t (rw (length-scatter x.rows t, e)) k

  -- a refusal that is given for every table
  refuses : (call : Store → Outcome) (e : Refusal) (n : ℕ) → n ≡ refusal_number e → ((t : List Record) → length t ≡ len → Taken t w.k x.rows → refused n w (over x t) ≡ call (over x t)) → Offer call w len x (Err e) noted
  refuses call e n en h = record {
    same-slots = stood.alike.same-slots;
    is = λ t u k. ap (λ (s : Store). refused (refusal_number e) w s) (over-same t) ∙ ap (λ (m : ℕ). refused m w (over x t)) (sym en) ∙ h t u k;
    still = λ _ t. alike-scatter stood.alike t;
    low = λ v q. absurd (let o : ◌≡◌ {A = ℕ} 0 1 = cc in omega arith);
  }

  module _ (zero : z ≡ 0) where
    pub stands : Stands w (sizes_by x len) false x.lengths x.marks hs
    stands = stood.none zero

    pub serves : Serves w noted
    serves = record {
      set_up = stands.set_up;
      media-long = stands.long.media-long;
      timestamps-long = stands.long.timestamps-long;
      lengths-long = stands.long.lengths-long;
      marks-long = stands.long.marks-long;
      parity-long = stands.long.parity-long;
      sound = stands.sound;
    }

    fits-now : (t : List Record) → length t ≡ len → Taken t w.k x.rows → Fits t w.k hs
    fits-now t e k =
        let l : w.k ≤ length t = omega (arith, stands.long.records-long) in
        alike-fits stood.alike (record { apart = k.apart l stands.set_up.k-high; enough = l })

    order-now : (t : List Record) → length t ≡ len → Taken t w.k x.rows → InOrder w (over noted t)
    order-now t e k = subst (InOrder w) (sym (over-same t)) (standing-good w (over x t) 0 0 (sym (standing-is t e k) ∙ zero)).order

    -- a packet that is taken in for every table
    accepts : (call : Store → Outcome) (accept : Store → State) (r : Offered) (y : Parts) → Accepted accept w.k noted r y
        → ((t : List Record) → length t ≡ len → Taken t w.k x.rows → settled (accept (over x t)) ≡ call (over x t)) → Offer call w len x (Ok r) y
    accepts call accept r y a h = record {
      same-slots = a.same-slots ∙ stood.alike.same-slots;
      is = λ t e k. a.is t (fits-now t e k) ∙ ap (λ (s : Store). settled (accept s)) (over-same t) ∙ h t e k;
      still = λ c t. a.still c t ∙ alike-scatter stood.alike t;
      low = λ v h. (a.low v h, stands.long.records-long);
    }

  -- ---- media
  module _ (g : List ℕ) where
    pub media-stands : (r : Refusal) → z ≡ refusal_number r → Offer (offered_media w g) w len x (Err r) noted
    media-stands r er = let h = λ (q : z ≡ 0). never_0 r (sym er ∙ q) in refuses (offered_media w g) r z er (λ t e k. media-refused w g (over x t) z (standing-refuses w (over x t) (media_tests w.p g) (media_place_tests w g (over x t)) (media-numbered w.p g) z (standing-is t e k) h) h)

    module _ (zero : z ≡ 0) (y : ℕ) (ey : y ≡ first (media_tests w.p g)) where
      pub media_wrong : (r : Refusal) → y ≡ refusal_number r → Offer (offered_media w g) w len x (Err r) noted
      media_wrong r er = let h = λ (q : y ≡ 0). never_0 r (sym er ∙ q) in refuses (offered_media w g) r y er (λ t e k. media-refused w g (over x t) y (datagram-refuses w (over x t) (media_tests w.p g) (media_place_tests w g (over x t)) (media-numbered w.p g) z (standing-is t e k) zero y ey h) h)

      module _ (fine : y ≡ 0) (q : ℕ) (eq : (parity : List ℕ) (t : List Record) → q ≡ first (media_place_tests w g (stored x.media x.timestamps x.lengths x.marks parity t))) where
        decided : (t : List Record) → length t ≡ len → Taken t w.k x.rows → q ≡ first (media_offer_tests w g (over x t))
        decided t e k = place_decides w (over x t) (media_tests w.p g) (media_place_tests w g (over x t)) (media-numbered w.p g) z (standing-is t e k) zero y q ey fine (eq x.parity (scatter x.rows t))

        pub media-placed : (r : Refusal) → q ≡ refusal_number r → Offer (offered_media w g) w len x (Err r) noted
        media-placed r er = let h = λ (p : q ≡ 0). never_0 r (sym er ∙ p) in refuses (offered_media w g) r q er (λ t e k. media-refused w g (over x t) q (decided t e k) h)

        pub media-accepted : q ≡ 0 → (r : Offered) (v : Parts) → Accepted (λ s. accept_media g (begun w s)) w.k noted r v → Offer (offered_media w g) w len x (Ok r) v
        media-accepted h r v a = accepts zero (offered_media w g) (λ s. accept_media g (begun w s)) r v a (λ t e k. media-taken w g (over x t) (sym h ∙ decided t e k))

  -- ---- parity
  module _ (stream : ℕ) (g : List ℕ) where
    pub parity-stands : (r : Refusal) → z ≡ refusal_number r → Offer (offered_parity stream w g) w len x (Err r) noted
    parity-stands r er = let h = λ (q : z ≡ 0). never_0 r (sym er ∙ q) in refuses (offered_parity stream w g) r z er (λ t e k. parity-refused w g (over x t) stream z (standing-refuses w (over x t) (parity_tests stream w.l w.d w.p g) (parity_place_tests w stream g (over x t)) (parity-numbered stream w.l w.d w.p g) z (standing-is t e k) h) h)

    module _ (zero : z ≡ 0) (y : ℕ) (ey : y ≡ first (parity_tests stream w.l w.d w.p g)) where
      pub parity_wrong : (r : Refusal) → y ≡ refusal_number r → Offer (offered_parity stream w g) w len x (Err r) noted
      parity_wrong r er = let h = λ (q : y ≡ 0). never_0 r (sym er ∙ q) in refuses (offered_parity stream w g) r y er (λ t e k. parity-refused w g (over x t) stream y (datagram-refuses w (over x t) (parity_tests stream w.l w.d w.p g) (parity_place_tests w stream g (over x t)) (parity-numbered stream w.l w.d w.p g) z (standing-is t e k) zero y ey h) h)

      module _ (fine : y ≡ 0) (q : ℕ) (eq : (t : List Record) → Fits t w.k hs → q ≡ first (parity_place_tests w stream g (over noted t))) where
        placed : (t : List Record) → length t ≡ len → Taken t w.k x.rows → q ≡ first (parity_offer_tests w stream g (over x t))
        placed t e k =
            place_decides w (over x t) (parity_tests stream w.l w.d w.p g) (parity_place_tests w stream g (over x t)) (parity-numbered stream w.l w.d w.p g) z (standing-is t e k) zero y q ey fine
            (eq t (fits-now zero t e k) ∙ ap (λ (s : Store). first (parity_place_tests w stream g s)) (over-same t))

        pub parity-placed : (r : Refusal) → q ≡ refusal_number r → Offer (offered_parity stream w g) w len x (Err r) noted
        parity-placed r er = let h = λ (p : q ≡ 0). never_0 r (sym er ∙ p) in refuses (offered_parity stream w g) r q er (λ t e k. parity-refused w g (over x t) stream q (placed t e k) h)

        module _ (none : q ≡ 0) where
          takes : (t : List Record) → length t ≡ len → Taken t w.k x.rows → settled (accept_parity stream g (begun w (over x t))) ≡ offered_parity stream w g (over x t)
          takes t e k = parity-taken w g (over x t) stream (sym none ∙ placed t e k)

          pub parity-accepted : (r : Offered) (v : Parts) → Accepted (λ s. accept_parity stream g (begun w s)) w.k noted r v → Offer (offered_parity stream w g) w len x (Ok r) v
          parity-accepted r v a = accepts zero (offered_parity stream w g) (λ s. accept_parity stream g (begun w s)) r v a takes

          -- none is missing: the store is at rest
          pub parity-spent : missing x.marks (group w stream (snbase g)) ≡ [] → Offer (offered_parity stream w g) w len x (Ok (plainly 0 0 w false)) noted
          parity-spent h = record {
            same-slots = stood.alike.same-slots;
            is = λ t e k.
                let o = order-now zero t e k in
                let rests : settle (accept_parity stream g (begun w (over noted t))) ≡ scene w (over noted t) 0 0 =
                ap settle (take_none stream (snbase g) (recovery_of w.p g) (begun w (over noted t)) (missing x.marks (group w stream (snbase g))) (ap length h)) ∙ order-rest w (over noted t) o 0 0 in
                ap (λ (u : State). record { answer = Done u.rebuilt u.spoilt; window = u.window; store = u.store }) (sym rests) ∙ ap (λ (s : Store). settled (accept_parity stream g (begun w s))) (over-same t) ∙ takes t e k;
            still = λ _ t. alike-scatter stood.alike t;
            low = λ v e. absurd (let o : ◌≡◌ {A = ℕ} 0 1 = cc in omega arith);
          }

          -- enough are missing: it is held, and the store is at rest
          pub parity_held_lem : least_missing ≤ length (missing x.marks (group w stream (snbase g))) → w.in_use < w.k → (r : Offered) (parity : List ℕ) → Kept w stream g x.parity hs r parity
              → Offer (offered_parity stream w g) w len x (Ok r) (record { media = x.media; timestamps = x.timestamps; lengths = x.lengths; marks = x.marks; parity = parity; rows = hs })
          parity_held_lem lacking room r parity a = record {
            same-slots = stood.alike.same-slots;
            is = λ t e k. held t e k ∙ ap (λ (s : Store). settled (accept_parity stream g (begun w s))) (over-same t) ∙ takes t e k;
            still = λ c. absurd (let v : ◌≡◌ {A = Bool} true false = sym a.changes ∙ c in let u : ◌≡◌ {A = ℕ} 0 1 = cc in omega arith);
            low = λ _ _. ((stands zero).free-low room, (stands zero).long.records-long);
          }
            where
              y' : Parts
              y' = record { media = x.media; timestamps = x.timestamps; lengths = x.lengths; marks = x.marks; parity = parity; rows = hs }

              held : (t : List Record) → length t ≡ len → Taken t w.k x.rows → outcome r y' t ≡ settled (accept_parity stream g (begun w (over noted t)))
              held t e k =
                  let f = fits-now zero t e k in
                  let o = order-now zero t e k in
                  let s = over noted t in
                  let gap : first_free w s ≡ gap_from 0 hs = first_free-rows hs f.apart f.enough in
                  let near : first_free w s < length (scatter hs t) = omega (arith, gap, (stands zero).free-low room, f.enough, length-scatter hs t) in
                  let rests : settle (accept_parity stream g (begun w s)) ≡ hold (first_free w s) stream (snbase g) (recovery_of w.p g) (begun w s) =
                  ap settle (take_more stream (snbase g) (recovery_of w.p g) (begun w s) (missing x.marks (group w stream (snbase g))) (omega (arith, lacking))) ∙ held-rest w s o (first_free w s) stream (snbase g) (recovery_of w.p g) 0 0 lacking near in
                  let table : scatter (left r.held hs) t ≡ set (scatter hs t) (first_free w s) (held_record stream (snbase g) (recovery_of w.p g)) =
                  ap (λ (o : Option Record). scatter (left o hs) t) a.holds ∙ held_in_table hs f.apart f.enough (held_record stream (snbase g) (recovery_of w.p g)) in
                  let payloads : parity ≡ paste x.parity (first_free w s * w.p) (recovery_of w.p g).content.payload w.p = a.lies ∙ ap (λ (n : ℕ). paste x.parity (n * w.p) (recovery_of w.p g).content.payload w.p) (sym gap) in
                  (λ i. record { answer = Done (a.counts i).count (a.counts i).spoilt; window = a.windows i; store = stored x.media x.timestamps x.lengths x.marks (payloads i) (table i) })
                  ∙ ap (λ (u : State). record { answer = Done u.rebuilt u.spoilt; window = u.window; store = u.store }) (sym rests)
