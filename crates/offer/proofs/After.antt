-- A packet more is present: settling goes on from there. Assumes nothing.
use mathlib.Core.Path.{◌≡◌, refl, sym, ap, subst, ◌∙◌}
use mathlib.Core.Bool.{Bool, true, false, cond, not}
use mathlib.Core.List.{List, [], ◌∷◌}
use Prim.Native.Nat.{ℕ, ◌+◌, ◌*◌, ◌-◌, ◌^◌, ◌<◌}
use native.Mathlib.Omega.{arith}
use lib.Dec.{eqb}
use lib.ListN.{length, set, take, drop, length-set, length-drop}
use lib.Seq.{paste}
use borrow.Author.Tests.{eqb-true, not-false}
use Rattle.std.specs.Prelude.{Option, Some, None}
use Rattle.answer.specs.declared.Answer.TheVariants.{Done}
use Rattle.sequence.specs.Lists.{head_or}
use Rattle.rtp.specs.Rtp.{rtp_header_size, sequence_number, timestamp}
use Rattle.rtp.specs.Fec.{parity_header_size, snbase, length_recovery, timestamp_recovery}
use Rattle.window.specs.declared.Record.{Record}
use Rattle.window.specs.declared.Window.{Window}
use Rattle.window.specs.Store.{Store, stored}
use Rattle.window.specs.Limits.{width}
use Rattle.window.specs.Group.{position, group, is_missing, missing}
use Rattle.window.specs.Plain.{Inside}
use Rattle.xor.specs.Xor.{padded}
use Rattle.calls.specs.Content.{Recovery}
use Rattle.calls.specs.State.{State, scene, recount, rebuild, fits_over, count_spoilt, hold}
use Rattle.calls.specs.Accept.{recovery_of, first_free, accept_media, take_parity, accept_parity}
use Rattle.calls.proofs.Rest.{settle-none}
use Rattle.calls.specs.Call.{begun, settled}
use Rattle.table.specs.declared.Row.{Row}
use Rattle.table.specs.View.{scatter}
use Rattle.table.specs.Apart.{Fits, Alike, alike-scatter, alike-fits}
use Rattle.table.specs.Sound.{Sound}
use Rattle.engine.specs.declared.Round.{Round}
use Rattle.engine.specs.Rows.{AgainAll}
use Rattle.engine.specs.Round.{Parts, over, Serves, Settled}
use Rattle.engine.proofs.Same.{set_up_same, sound-same}
use Rattle.engine.proofs.Again.{again_sound}
use Rattle.group.specs.Held.{Below}
use Rattle.group.specs.Tried.{Tried}
use Rattle.group.proofs.Rows.{kept-below}
use Rattle.offer.specs.declared.Offered.{Offered}
use Rattle.offer.specs.Offer.{Went, Accepted}
use Rattle.offer.proofs.Tests.{rest-is}

-- ---- the ways through take_parity
module _ (stream b : ℕ) (c : Recovery) (x : State) where
  pub take_none : (l : List ℕ) → length l ≡ 0 → take_parity l stream b c x ≡ x
  take_none [] e = refl
  take_none (i ∷ l) e = absurd (omega (arith, e))

  pub take-one : (l : List ℕ) → length l ≡ 1 → take_parity l stream b c x ≡ cond (fits_over x (group x.window stream b) c) (rebuild (group x.window stream b) c.content (head_or 0 l) x) (count_spoilt x)
  take-one [] e = absurd (omega (arith, e))
  take-one (i ∷ []) e = refl
  take-one (i ∷ j ∷ l) e = absurd (omega (arith, e))

  pub take_more : (l : List ℕ) → 1 < length l → take_parity l stream b c x ≡ hold (first_free x.window x.store) stream b c x
  take_more [] e = absurd (omega (arith, e))
  take_more (i ∷ []) e = absurd (omega (arith, e))
  take_more (i ∷ j ∷ l) e = refl

-- what is taken in without a record
abbrev pub plainly : (rebuilt spoilt : ℕ) → Window → Bool → Offered
plainly rebuilt spoilt v changed = record { counts = record { count = rebuilt; spoilt = spoilt }; window = v; changed = changed; held = None }

-- ---- position i becomes present
module _ (w : Window) (x : Parts) (media timestamps lengths marks : List ℕ) (hs : List Row) (v : Window) (ev : v ≡ recount w (w.present + 1) w.in_use) where
  abbrev y : Parts
  y = record { media = media; timestamps = timestamps; lengths = lengths; marks = marks; parity = x.parity; rows = hs }

  pub serves-after : Serves w x → (i : ℕ) → length media ≡ length x.media → length timestamps ≡ length x.timestamps → length lengths ≡ length x.lengths → marks ≡ set x.marks i 1 → AgainAll v i marks x.rows hs → Serves v y
  serves-after serves i lm lt ll ek again =
      let was : Sound v x.marks x.rows = sound-same w v (w.present + 1) w.in_use x.marks x.rows ev serves.sound in
      record {
        set_up = set_up_same w v (w.present + 1) w.in_use ev serves.set_up;
        media-long = rw (ev, lm) serves.media-long;
        timestamps-long = rw (ev, lt) serves.timestamps-long;
        lengths-long = rw (ev, ll) serves.lengths-long;
        marks-long = rw (ev, ek, length-set) serves.marks-long;
        parity-long = rw ev serves.parity-long;
        sound = subst (λ (k : List ℕ). Sound v k hs) (sym ek) (again_sound v i x.marks x.rows hs was (subst (λ (k : List ℕ). AgainAll v i k x.rows hs) ek again));
      }

  -- what is settled from there
  module _ (alike : Alike hs x.rows) (accept : Store → State) (b q : ℕ) (is : (t : List Record) → Fits t w.k x.rows → scene v (stored media timestamps lengths marks x.parity (scatter x.rows t)) b q ≡ accept (over x t)) (r : Offered) (z : Parts) (s : Went v y b q r z) where
    pub accepted : Accepted accept w.k x r z
    accepted = record {
      same-slots = s.same-slots ∙ alike.same-slots;
      is = λ t f.
          let fits : Fits t v.k hs = rw ev (alike-fits alike f) in
          let begins : scene v (over y t) b q ≡ accept (over x t) = ap (λ (u : List Record). scene v (stored media timestamps lengths marks x.parity u) b q) (alike-scatter alike t) ∙ is t f in
          s.is t fits ∙ ap settled begins;
      still = λ e t. s.still e t ∙ alike-scatter alike t;
      low = λ v e. absurd (let o : ◌≡◌ {A = Option Record} (Some v) None = sym e ∙ s.free in let u : ◌≡◌ {A = ℕ} 0 1 = cc in omega arith);
    }

-- settling, with the counts of what went before
pub went : (v : Window) (x : Parts) (b q : ℕ) (r : Round) (z : Parts) → Settled v x r z → Went v x b q (plainly (b + r.rebuilt) (q + r.spoilt) r.window (not (eqb (r.rebuilt + r.spoilt) 0))) z
went v x b q r z s = record {
  same-slots = s.same-slots;
  is = λ t f. ap (λ (u : State). record { answer = Done u.rebuilt u.spoilt; window = u.window; store = u.store }) (s.is t f b q);
  still = λ e t. ap (λ (l : List Row). scatter l t) (s.still (eqb-true (r.rebuilt + r.spoilt) 0 (not-false (eqb (r.rebuilt + r.spoilt) 0) e)));
  free = refl;
}

-- with no record in use there is nothing to settle
pub went-none : (v : Window) (x : Parts) (b q : ℕ) → v.in_use ≡ 0 → Went v x b q (plainly b q v false) x
went-none v x b q e = record {
  same-slots = refl;
  is = λ t f. ap (λ (u : State). record { answer = Done u.rebuilt u.spoilt; window = u.window; store = u.store }) (sym (settle-none (scene v (over x t) b q) e));
  still = λ h t. refl;
  free = refl;
}

-- the packet of a media datagram
pub media-is : (w v : Window) (g : List ℕ) (x : Parts) (t : List Record) (i stamp : ℕ) (media : List ℕ)
    → v ≡ recount w (w.present + 1) w.in_use → i ≡ position w (sequence_number g) → stamp ≡ timestamp g → media ≡ paste x.media (i * w.p) (padded w.p (take (length g - rtp_header_size) (drop rtp_header_size g))) w.p
    → scene v (stored media (set x.timestamps i stamp) (set x.lengths i (length (take (length g - rtp_header_size) (drop rtp_header_size g)))) (set x.marks i 1) x.parity (scatter x.rows t)) 0 0 ≡ accept_media g (begun w (over x t))
media-is w v g x t i stamp media ev ei es em = rw (em, rest-is rtp_header_size g, ev, es, ei)

-- the packet that a parity datagram was to rebuild
module _ (w : Window) (stream : ℕ) (g : List ℕ) (x : Parts) (i b : ℕ) (ok : Bool) (media timestamps lengths marks : List ℕ)
    (eb : b ≡ snbase g) (one : missing x.marks (group w stream (snbase g)) ≡ i ∷ []) (c : Recovery) (ec : c ≡ recovery_of w.p g)
    (told : Tried w (group w stream b) i c ok x.media x.timestamps x.lengths x.marks media timestamps lengths marks) where
  tried : Tried w (group w stream (snbase g)) i (recovery_of w.p g) ok x.media x.timestamps x.lengths x.marks media timestamps lengths marks
  tried =
      subst (λ (n : ℕ). Tried w (group w stream n) i (recovery_of w.p g) ok x.media x.timestamps x.lengths x.marks media timestamps lengths marks) eb
      (subst (λ (r : Recovery). Tried w (group w stream b) i r ok x.media x.timestamps x.lengths x.marks media timestamps lengths marks) ec told)

  taken_as : (t : List Record) → accept_parity stream g (begun w (over x t)) ≡ cond ok (rebuild (group w stream (snbase g)) (recovery_of w.p g).content i (begun w (over x t))) (count_spoilt (begun w (over x t)))
  taken_as t =
      take-one stream (snbase g) (recovery_of w.p g) (begun w (over x t)) (missing x.marks (group w stream (snbase g))) (ap length one)
      ∙ ap (λ (f : Bool). cond f (rebuild (group w stream (snbase g)) (recovery_of w.p g).content (head_or 0 (missing x.marks (group w stream (snbase g)))) (begun w (over x t))) (count_spoilt (begun w (over x t)))) (sym tried.fit)
      ∙ ap (λ (n : ℕ). cond ok (rebuild (group w stream (snbase g)) (recovery_of w.p g).content n (begun w (over x t))) (count_spoilt (begun w (over x t)))) (ap (head_or 0) one)

  -- it is rebuilt
  pub last-is : ok ≡ true → (v : Window) → v ≡ recount w (w.present + 1) w.in_use → (t : List Record) → scene v (stored media timestamps lengths marks x.parity (scatter x.rows t)) 1 0 ≡ accept_parity stream g (begun w (over x t))
  unfolding rebuild
  last-is good v ev t =
      let d = tried.done good in
      rw (d.0, d.1, d.2, d.3, ev)
      (sym (taken_as t ∙ ap (λ (f : Bool). cond f (rebuild (group w stream (snbase g)) (recovery_of w.p g).content i (begun w (over x t))) (count_spoilt (begun w (over x t)))) good))

  -- it is spoilt: the parts are as they were
  pub same_parts : ok ≡ false → (media ≡ x.media) × (timestamps ≡ x.timestamps) × (lengths ≡ x.lengths) × (marks ≡ x.marks)
  same_parts bad = tried.same bad

  abbrev y₀ : Parts
  y₀ = record { media = media; timestamps = timestamps; lengths = lengths; marks = marks; parity = x.parity; rows = x.rows }

  same-y : ok ≡ false → y₀ ≡ x
  same-y bad = let d = tried.same bad in λ k. record { media = d.0 k; timestamps = d.1 k; lengths = d.2 k; marks = d.3 k; parity = x.parity; rows = x.rows }

  pub serves-spoilt : ok ≡ false → Serves w x → Serves w y₀
  serves-spoilt bad s = subst (Serves w) (sym (same-y bad)) s

  pub spoilt-accepted : ok ≡ false → (r : Offered) (z : Parts) → Went w y₀ 0 1 r z → Accepted (λ s. accept_parity stream g (begun w s)) w.k x r z
  spoilt-accepted bad r z s₀ =
      let s : Went w x 0 1 r z = subst (λ (u : Parts). Went w u 0 1 r z) (same-y bad) s₀ in
      record {
        same-slots = s.same-slots;
        is = λ t f. s.is t f ∙ ap settled (sym (taken_as t ∙ ap (λ (f : Bool). cond f (rebuild (group w stream (snbase g)) (recovery_of w.p g).content i (begun w (over x t))) (count_spoilt (begun w (over x t)))) bad));
        still = s.still;
        low = λ v e. absurd (let o : ◌≡◌ {A = Option Record} (Some v) None = sym e ∙ s.free in let u : ◌≡◌ {A = ℕ} 0 1 = cc in omega arith);
      }

-- the one packet missing of an offered parity packet's group lies in the window
pub last_here : (w : Window) → w.base < 2 ^ width → (x : Parts) → Serves w x → (stream : ℕ) (g : List ℕ) → Inside w stream (snbase g) → (i : ℕ) → missing x.marks (group w stream (snbase g)) ≡ i ∷ [] → i < w.n
last_here w based x serves stream g near i one = (subst (Below w.n) one (kept-below w based serves.set_up stream (snbase g) near (is_missing x.marks))).0
