-- The ways through a method. Assumes nothing.
use Rattle.std.proofs.Common.{◌≡◌, refl, sym, ap, subst, ◌∙◌, Bool, true, false, List, ◌++◌, ℕ, ◌<◌, ◌≤◌, arith, length, take, drop, length-append, length-drop, length-take-le, take_at, Result, Ok, Err, Option, Some, None}
use Rattle.answer.specs.declared.Counts.{Counts}
use Rattle.answer.specs.declared.Refusal.{Refusal}
use Rattle.answer.specs.Refused.{answer_of, written_as}
use Rattle.window.specs.declared.Record.{Record}
use Rattle.window.specs.declared.StoreView.{StoreView}
use Rattle.window.specs.declared.Window.{Window}
use Rattle.window.specs.Limits.{most_records}
use Rattle.window.specs.Store.{Store, stored, viewed}
use Rattle.calls.specs.Call.{Outcome, Written}
use Rattle.calls.specs.Move.{Moved, outcome_of, moved}
use Rattle.table.specs.declared.Row.{Row}
use Rattle.table.specs.View.{scatter}
use Rattle.table.specs.Apart.{Within, same-slot, same_length}
use Rattle.table.specs.Hold.{hold_in, hold-within}
use Rattle.order.specs.Stands.{Taken}
use Rattle.engine.specs.Round.{Parts}
use Rattle.offer.specs.declared.Offered.{Offered}
use Rattle.offer.specs.Offer.{left, changed_by, held_by, result_of, Offer}
use Rattle.moving.specs.declared.Moved as moving
use Rattle.moving.specs.Move.{Advance}
use Rattle.receiver.specs.declared.Step.{Step}
use Rattle.receiver.specs.Step.{Laid, table_of, Stepped, Wrote, Advanced}

-- a step
abbrev pub step_of : Result Counts Refusal → Window → (rows : ℕ) → (changed : Bool) → Step
step_of answer w rows changed = record { answer = answer; receiver = record { window = w }; rows = rows; changed = changed }

-- parts of a store, and rows
abbrev pub parts : (media timestamps lengths marks parity : List ℕ) → List Row → Parts
parts media timestamps lengths marks parity rows = record { media = media; timestamps = timestamps; lengths = lengths; marks = marks; parity = parity; rows = rows }

clash : (b : Bool) → b ≡ true → b ≡ false → ⊥
clash true e f = let q : ◌≡◌ {A = ℕ} 0 1 = cc in omega arith
clash false e f = let q : ◌≡◌ {A = ℕ} 0 1 = cc in omega arith

-- what is no record is none
pub none_held : (x : Option Record) → ((v : Record) → x ≡ Some v → ⊥) → x ≡ None
none_held None h = refl
none_held (Some v) h = absurd (h v refl)

-- no room: the hand is none of a table
module _ (k len m : ℕ) (rows : List Row) (fits : Bool) (would : (m ≤ most_records) × (m < length rows) → fits ≡ true) (not_so : fits ≡ false) where
  no_room : (t : List Record) → Laid k len m rows t → ⊥
  no_room t l = clash fits (would (l.few, l.room)) not_so

  pub unlaid : (call : Store → Outcome) (media timestamps lengths marks parity : List ℕ) (r : Step) → Stepped call k len m media timestamps lengths marks parity rows media timestamps lengths marks parity rows r
  unlaid call media timestamps lengths marks parity r = record { is = λ t l. absurd (no_room t l); still = λ t l. absurd (no_room t l); few = λ t l. absurd (no_room t l); within = λ t l. absurd (no_room t l) }

  pub unread : (call : Store → List ℕ → Written) (store : StoreView) (out : List ℕ) (r : Step) → Wrote call k len m store rows out out r
  unread call store out r = record { is = λ t l. absurd (no_room t l) }

  pub unmoved : (call : Store → Moved) (media timestamps lengths marks parity out sizes : List ℕ) (r : Step) → Advanced call k len m media timestamps lengths marks parity rows media timestamps lengths marks parity rows out sizes r
  unmoved call media timestamps lengths marks parity out sizes r = record { stepped = unlaid (λ s. outcome_of (call s)) media timestamps lengths marks parity r; out = λ t l. absurd (no_room t l); sizes = λ t l. absurd (no_room t l) }

-- ---- the first m of some rows were lent
module _ (w : Window) (len m : ℕ) (rows : List Row) (room : m < length rows) where
  pub read_part : (call : Store → List ℕ → Written) (store : StoreView) (out out' : List ℕ) (written : Result ℕ Refusal) (answer : Result Counts Refusal) → answer_of answer ≡ written_as written
      → ((t : List Record) → length t ≡ len → Taken t w.k (take m rows) → record { answer = written_as written; window = w; out = out' } ≡ call (viewed store (scatter (take m rows) t)) out)
      → Wrote call w.k len m store rows out out' (step_of answer w m false)
  read_part call store out out' written answer e h = record { is = λ t l. (λ i. record { answer = e i; window = w; out = out' }) ∙ h t l.sized l.taken }

  module _ (us : List Row) (lu : length us ≡ length (take m rows)) where
    -- the rows then
    abbrev back : List Row
    back = us ++ drop m rows

    lent_long : length us ≡ m
    lent_long = lu ∙ length-take-le m rows (omega arith)

    back_is : take m back ≡ us
    back_is = take_at us (drop m rows) m lent_long

    pub back_more : m < length back
    back_more = omega (arith, length-append us (drop m rows), length-drop m rows, lent_long)

    -- ---- an offer worked on them
    module _ (call : Store → Outcome) (media timestamps lengths marks parity : List ℕ) (r : Result Offered Refusal) (media' timestamps' lengths' marks' parity' : List ℕ)
        (o : Offer call w len (parts media timestamps lengths marks parity (take m rows)) r (parts media' timestamps' lengths' marks' parity' us)) where
      slots-within : Within len (take m rows) → Within len us
      slots-within h i l = let e = o.same-slots in rw (same-slot (take m rows) us e i) (h i (omega (arith, l, same_length (take m rows) us e)))

      left-within : Within len (take m rows) → (held : Option Record) → held_by r ≡ held → Within len (left held us)
      left-within h None e = slots-within h
      left-within h (Some v) e = let low = o.low v e in hold-within len 0 v us (slots-within h) (omega (arith, low.0, low.1))

      -- how the rows that are left lie in some rows
      module _ (n : ℕ) (rows' : List Row) (are : take n rows' ≡ left (held_by r) us) (few : n ≤ length rows') (answer : Result Counts Refusal) (v : Window) (changed : Bool) (same : changed ≡ false → changed_by r ≡ false)
          (says : (t : List Record) → record { answer = answer_of answer; window = v; store = stored media' timestamps' lengths' marks' parity' (scatter (left (held_by r) us) t) } ≡ result_of w r (parts media' timestamps' lengths' marks' parity' us) t) where
        table-left : (t : List Record) → table_of n rows' t ≡ scatter (left (held_by r) us) t
        table-left t = ap (λ (hs : List Row). scatter hs t) are

        stepped : Stepped call w.k len m media timestamps lengths marks parity rows media' timestamps' lengths' marks' parity' rows' (step_of answer v n changed)
        stepped = record {
          is = λ t l. ap (λ (u : List Record). record { answer = answer_of answer; window = v; store = stored media' timestamps' lengths' marks' parity' u }) (table-left t) ∙ says t ∙ o.is t l.sized l.taken;
          still = λ t l c. table-left t ∙ o.still (same c) t;
          few = λ t l. few;
          within = λ t l h. subst (Within len) (sym are) (left-within h (held_by r) refl);
        }

    -- it was refused
    pub refused_step : (call : Store → Outcome) (media timestamps lengths marks parity : List ℕ) (e : Refusal) (media' timestamps' lengths' marks' parity' : List ℕ)
        → Offer call w len (parts media timestamps lengths marks parity (take m rows)) (Err e) (parts media' timestamps' lengths' marks' parity' us)
        → Stepped call w.k len m media timestamps lengths marks parity rows media' timestamps' lengths' marks' parity' back (step_of (Err e) w m false)
    refused_step call media timestamps lengths marks parity e media' timestamps' lengths' marks' parity' o =
        stepped call media timestamps lengths marks parity (Err e) media' timestamps' lengths' marks' parity' o m back back_is (omega (arith, back_more)) (Err e) w false (λ c. refl) (λ t. refl)

    -- nothing is held
    pub plain_step : (call : Store → Outcome) (media timestamps lengths marks parity : List ℕ) (r : Offered) (media' timestamps' lengths' marks' parity' : List ℕ)
        → Offer call w len (parts media timestamps lengths marks parity (take m rows)) (Ok r) (parts media' timestamps' lengths' marks' parity' us) → r.held ≡ None
        → Stepped call w.k len m media timestamps lengths marks parity rows media' timestamps' lengths' marks' parity' back (step_of (Ok r.counts) r.window m r.changed)
    plain_step call media timestamps lengths marks parity r media' timestamps' lengths' marks' parity' o h =
        stepped call media timestamps lengths marks parity (Ok r) media' timestamps' lengths' marks' parity' o m back (back_is ∙ ap (λ (x : Option Record). left x us) (sym h)) (omega (arith, back_more)) (Ok r.counts) r.window r.changed (λ c. c) (λ t. refl)

    -- a record is held
    pub held_step : (call : Store → Outcome) (media timestamps lengths marks parity : List ℕ) (r : Offered) (media' timestamps' lengths' marks' parity' : List ℕ)
        → Offer call w len (parts media timestamps lengths marks parity (take m rows)) (Ok r) (parts media' timestamps' lengths' marks' parity' us) → (v : Record) → r.held ≡ Some v
        → (n : ℕ) (rows' : List Row) → take n rows' ≡ hold_in 0 v (take m back) → n ≤ length rows'
        → Stepped call w.k len m media timestamps lengths marks parity rows media' timestamps' lengths' marks' parity' rows' (step_of (Ok r.counts) r.window n true)
    held_step call media timestamps lengths marks parity r media' timestamps' lengths' marks' parity' o v h n rows' e few =
        stepped call media timestamps lengths marks parity (Ok r) media' timestamps' lengths' marks' parity' o n rows' (e ∙ ap (hold_in 0 v) back_is ∙ ap (λ (x : Option Record). left x us) (sym h)) few (Ok r.counts) r.window true (λ c. absurd (clash true refl c)) (λ t. refl)

    -- ---- a move worked on them
    module _ (by : ℕ) (out sizes : List ℕ) (media timestamps lengths marks parity media' timestamps' lengths' marks' parity' out' sizes' : List ℕ) where
      x : Parts
      x = parts media timestamps lengths marks parity (take m rows)

      y : Parts
      y = parts media' timestamps' lengths' marks' parity' us

      call : Store → Moved
      call s = moved w by s out sizes

      -- it was made
      pub move_step : (r : moving.Moved) → Advance w by len (parts media timestamps lengths marks parity (take m rows)) out sizes (Ok r) (parts media' timestamps' lengths' marks' parity' us) out' sizes'
          → Advanced (λ s. moved w by s out sizes) w.k len m media timestamps lengths marks parity rows media' timestamps' lengths' marks' parity' (us ++ drop m rows) out' sizes' (step_of (Ok (record { count = r.count; spoilt = 0 })) r.window m true)
      move_step r a = record {
        stepped = plain_step (λ s. outcome_of (moved w by s out sizes)) media timestamps lengths marks parity (record { counts = record { count = r.count; spoilt = 0 }; window = r.window; changed = true; held = None }) media' timestamps' lengths' marks' parity'
            (record {
              same-slots = a.same-slots;
              is = λ t e q. ap outcome_of (a.is t e q);
              still = λ c. absurd (clash true refl c);
              low = λ v q. absurd (let z : ◌≡◌ {A = ℕ} 0 1 = cc in omega arith);
            }) refl;
        out = λ t l. ap (λ (z : Moved). z.out) (a.is t l.sized l.taken);
        sizes = λ t l. ap (λ (z : Moved). z.sizes) (a.is t l.sized l.taken);
      }

      -- it was refused
      pub unmade_step : (e : Refusal) → Advance w by len (parts media timestamps lengths marks parity (take m rows)) out sizes (Err e) (parts media' timestamps' lengths' marks' parity' us) out' sizes'
          → Advanced (λ s. moved w by s out sizes) w.k len m media timestamps lengths marks parity rows media' timestamps' lengths' marks' parity' (us ++ drop m rows) out' sizes' (step_of (Err e) w m false)
      unmade_step e a = record {
        stepped = refused_step (λ s. outcome_of (moved w by s out sizes)) media timestamps lengths marks parity e media' timestamps' lengths' marks' parity'
            (record {
              same-slots = a.same-slots;
              is = λ t z q. ap outcome_of (a.is t z q);
              still = λ c. a.still e refl;
              low = λ v q. absurd (let z : ◌≡◌ {A = ℕ} 0 1 = cc in omega arith);
            });
        out = λ t l. ap (λ (z : Moved). z.out) (a.is t l.sized l.taken);
        sizes = λ t l. ap (λ (z : Moved). z.sizes) (a.is t l.sized l.taken);
      }
