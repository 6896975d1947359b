-- The ways through a move. Assumes nothing.
use Rattle.std.proofs.Common.{◌≡◌, refl, sym, ap, ap₂, ◌∙◌, false, List, ◌++◌, ℕ, zero, suc, ◌^◌, ◌<◌, ◌≤◌, arith, length, ne_eqb, Ok, Err}
use Rattle.answer.specs.declared.Refusal.{Refusal}
use Rattle.answer.specs.Refused.{refusal_number, fault_of}
use Rattle.answer.proofs.Refused.{never_0}
use Rattle.answer.specs.declared.Answer.TheVariants.{Done, Refused}
use Rattle.answer.specs.First.{first}
use Rattle.xor.specs.Xor.{padded}
use Rattle.window.specs.declared.Record.{Record}
use Rattle.window.specs.declared.Sizes.{Sizes}
use Rattle.window.specs.declared.Window.{Window}
use Rattle.window.specs.Limits.{width}
use Rattle.window.specs.Store.{Store, stored}
use Rattle.calls.specs.State.{State, scene}
use Rattle.calls.specs.Call as calls
use Rattle.calls.specs.Move as call
use Rattle.table.specs.declared.Row.{Row}
use Rattle.table.specs.View.{scatter}
use Rattle.table.specs.Apart.{Fits, alike-scatter, alike-fits, length-scatter}
use Rattle.order.specs.Stands.{Taken, Stands}
use Rattle.engine.specs.Round.{Parts, over}
use Rattle.engine.specs.Rows.{free_below}
use Rattle.engine.proofs.Free.{desk}
use Rattle.moving.specs.Rows.{row_behind}
use Rattle.moving.specs.Lies.{positions, Lies}
use Rattle.moving.specs.Move.{Judged, Advance}
use Rattle.moving.proofs.Behind.{released, slots_kept}

-- ---- the definition

module _ (w : Window) (by : ℕ) (s : Store) (out sizes : List ℕ) where
  -- a refusal applies
  moved-no : (r : ℕ) → r ≡ first (call.move_tests w by s out sizes) → (r ≡ 0 → ⊥) → record { answer = Refused r; window = w; store = s; out = out; sizes = sizes } ≡ call.moved w by s out sizes
  unfolding call.moved
  moved-no r e h = rw (← e, ne_eqb r 0 h)

  -- none does
  moved-yes : 0 ≡ first (call.move_tests w by s out sizes) → call.moved_on w by s out sizes ≡ call.moved w by s out sizes
  unfolding call.moved
  moved-yes e = rw (← e)

-- what leaves looks at the positions alone
slots_same : (w : Window) (media timestamps lengths marks parity : List ℕ) (t : List Record) (i : ℕ)
    → call.leaving_slots w (positions media timestamps lengths marks) i ≡ call.leaving_slots w (stored media timestamps lengths marks parity t) i
slots_same w media timestamps lengths marks parity t zero = refl
slots_same w media timestamps lengths marks parity t (suc i) =
    ap (λ (l : List ℕ). l ++ padded (call.slot_size w) (call.leaving w (positions media timestamps lengths marks) i)) (slots_same w media timestamps lengths marks parity t i)

-- ---- the code

-- how long the parts are
abbrev pub sizes_by : Parts → ℕ → Sizes
sizes_by x len = record { media = length x.media; timestamps = length x.timestamps; lengths = length x.lengths; marks = length x.marks; parity = length x.parity; records = len }

module _ (w : Window) (by len : ℕ) (x : Parts) (out sizes : List ℕ) (hs : List Row) (z : ℕ) (j : Judged w by (sizes_by x len) (length out) (length sizes) x.lengths x.marks x.rows hs z) where
  -- the parts with the hand as it is behind the refusals: it has its notes
  abbrev noted : Parts
  noted = record { media = x.media; timestamps = x.timestamps; lengths = x.lengths; marks = x.marks; parity = x.parity; rows = hs }

  over-same : (t : List Record) → over noted t ≡ over x t
  over-same t = ap (λ (u : List Record). stored x.media x.timestamps x.lengths x.marks x.parity u) (alike-scatter j.alike t)

  first-is : (t : List Record) → length t ≡ len → Taken t w.k x.rows → z ≡ first (call.move_tests w by (over x t) out sizes)
  first-is t e k = j.is x.media x.timestamps x.parity out sizes t (rw (length-scatter x.rows t, e)) refl refl k

  -- the move is refused
  pub move-refused : (e : Refusal) → refusal_number e ≡ z → Advance w by len x out sizes (Err e) noted out sizes
  move-refused e h = record {
    same-slots = j.alike.same-slots;
    is = λ t l k. ap (λ (s : Store). record { answer = Refused (refusal_number e); window = w; store = s; out = out; sizes = sizes }) (over-same t) ∙ moved-no w by (over x t) out sizes (refusal_number e) (h ∙ first-is t l k) (never_0 e);
    still = λ _ _ t. alike-scatter j.alike t;
  }

  module _ (ok : z ≡ 0) where
    pub stands : Stands w (sizes_by x len) false x.lengths x.marks hs
    stands = j.stands ok

    pub lies : Lies w x.media x.timestamps x.lengths x.marks
    lies = record {
      set_up = stands.set_up;
      media-long = stands.long.media-long;
      timestamps-long = stands.long.timestamps-long;
      lengths-long = stands.long.lengths-long;
      marks-long = stands.long.marks-long;
      lengths-low = stands.lengths-low;
    }

    fits-now : (t : List Record) → length t ≡ len → Taken t w.k x.rows → Fits t w.k hs
    fits-now t e k =
        let l : w.k ≤ length t = omega (arith, stands.long.records-long) in
        alike-fits j.alike (record { apart = k.apart l stands.set_up.k-high; enough = l })

    -- the move is made
    module _ (based : w.base < 2 ^ width) (n : ℕ) (out' sizes' : List ℕ) (ec : n ≡ call.leaving_count (positions x.media x.timestamps x.lengths x.marks) by)
        (eo : out' ≡ calls.over (call.leaving_slots w (positions x.media x.timestamps x.lengths x.marks) by) out)
        (es : sizes' ≡ calls.over (call.leaving_sizes w (positions x.media x.timestamps x.lengths x.marks) by) sizes)
        (v : Window) (y : Parts) (ed : desk v y.parity y.rows ≡ free_below (row_behind w.base by) (length hs) (desk w x.parity hs))
        (ep : (parity : List ℕ) (t : List Record) → stored y.media y.timestamps y.lengths y.marks parity t ≡ call.shifted w by (stored x.media x.timestamps x.lengths x.marks parity t))
        (u : Window) (eu : u ≡ call.advanced by n v) where
      state : (t : List Record) → length t ≡ len → Taken t w.k x.rows
          → scene v (stored x.media x.timestamps x.lengths x.marks y.parity (scatter y.rows t)) 0 0 ≡ call.release_behind by (calls.begun w (over x t))
      state t e k =
          released w based stands.set_up by x.marks hs stands.sound x.parity stands.long.parity-long x.media x.timestamps x.lengths t (fits-now t e k) v y.parity y.rows ed
          ∙ ap (λ (s : Store). call.release_behind by (calls.begun w s)) (over-same t)

      pub move-made : Advance w by len x out sizes (Ok (record { count = n; window = u })) y out' sizes'
      move-made = record {
        same-slots = (slots_kept w based stands.set_up by x.marks hs stands.sound x.parity stands.long.parity-long v y.parity y.rows ed).same-slots ∙ j.alike.same-slots;
        is = λ t e k.
            let s = state t e k in
            let window : u ≡ call.advanced by (call.leaving_count (over x t) by) (call.release_behind by (calls.begun w (over x t))).window = eu ∙ ap₂ (λ (c : ℕ) (q : State). call.advanced by c q.window) ec s in
            let store : over y t ≡ call.shifted w by (call.release_behind by (calls.begun w (over x t))).store = ep y.parity (scatter y.rows t) ∙ ap (λ (q : State). call.shifted w by q.store) s in
            let slots : out' ≡ calls.over (call.leaving_slots w (over x t) by) out = eo ∙ ap (λ (l : List ℕ). calls.over l out) (slots_same w x.media x.timestamps x.lengths x.marks x.parity (scatter x.rows t) by) in
            (λ i. record { answer = Done (ec i) 0; window = window i; store = store i; out = slots i; sizes = es i })
            ∙ moved-yes w by (over x t) out sizes (sym ok ∙ first-is t e k);
        still = λ e q. absurd (never_0 e (sym (ap fault_of q)));
      }
