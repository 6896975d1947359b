-- The loop of rounds: what is left to do from here comes to what was to be done from the start. Assumes nothing.
use mathlib.Core.Path.{◌≡◌, refl, sym, ap, ap₂, ◌∙◌}
use mathlib.Core.List.{List}
use mathlib.Core.Option.{none}
use Prim.Native.Nat.{ℕ, suc, ◌+◌, ◌-◌, ◌<◌, ◌≤◌}
use native.Mathlib.Nat.{add-zero, add_assoc}
use native.Mathlib.Omega.{arith}
use Rattle.peel.specs.Rest.{rounds}
use Rattle.window.specs.declared.Record.{Record}
use Rattle.window.specs.declared.Window.{Window}
use Rattle.window.specs.Limits.{most_counted}
use Rattle.calls.specs.State.{scene, recount}
use Rattle.calls.specs.Settle.{next, round, round_by, settle}
use Rattle.calls.proofs.Rest.{rounds-rest}
use Rattle.table.specs.View.{slots}
use Rattle.table.specs.Apart.{Fits, same-fits}
use Rattle.engine.specs.declared.Round.{Round}
use Rattle.engine.specs.Round.{Parts, over, Serves, Rounded, Settled}
use Rattle.engine.proofs.Same.{recount_twice}

pub record Going (w : Window) (x : Parts) (v : Window) (y : Parts) (done bad left : ℕ) : Type 0 where
  pub kept : v ≡ recount w v.present v.in_use
  pub serves : Serves v y
  pub same-slots : slots y.rows ≡ slots x.rows
  pub few : v.present + left ≤ most_counted
  pub counted : done + bad + left ≤ w.in_use
  pub goes : (t : List Record) → Fits t w.k x.rows → (b q : ℕ) → rounds round left (scene v (over y t) (b + done) (q + bad)) ≡ rounds round w.in_use (scene w (over x t) b q)
  pub still : done + bad ≡ 0 → y.rows ≡ x.rows

pub going_start : (w : Window) (x : Parts) → Serves w x → w.present + w.in_use ≤ most_counted → Going w x w x 0 0 w.in_use
going_start w x s f = record {
  kept = refl;
  serves = s;
  same-slots = refl;
  few = f;
  counted = omega arith;
  goes = λ t h b q. ap₂ (λ (n m : ℕ). rounds round w.in_use (scene w (over x t) n m)) (add-zero b) (add-zero q);
  still = λ _. refl;
}

module _ (w : Window) (x : Parts) (v : Window) (y : Parts) (done bad left : ℕ) (g : Going w x v y done bad left) where
  fits-now : (t : List Record) → Fits t w.k x.rows → Fits t v.k y.rows
  fits-now t f = let e : v.k ≡ w.k = ap (λ (u : Window). u.k) g.kept in rw e (same-fits f y.rows g.same-slots)

  -- a round that rebuilt a packet, or found a spoilt row
  pub going_on : (r : Round) (z : Parts) → 0 < left → Rounded v y r z → (r.rebuilt + r.spoilt ≡ 0 → ⊥) → Going w x r.window z (done + r.rebuilt) (bad + r.spoilt) (left - 1)
  unfolding rounds
  going_on r z l h c =
      let f : suc (left - 1) ≡ left = omega arith in
      record {
        kept = recount_twice w v r.window g.kept h.kept;
        serves = h.serves;
        same-slots = h.same-slots ∙ g.same-slots;
        few = omega (arith, g.few, h.more-present, h.small);
        counted = omega (arith, g.counted, h.small);
        goes = λ t k b q.
            let d : scene r.window (over z t) (b + (done + r.rebuilt)) (q + (bad + r.spoilt)) ≡ round (scene v (over y t) (b + done) (q + bad)) =
            ap₂ (scene r.window (over z t)) (sym (add_assoc b done r.rebuilt)) (sym (add_assoc q bad r.spoilt)) ∙ h.is t (fits-now t k) (b + done) (q + bad) in
            ap (rounds round (left - 1)) d ∙ ap (λ (n : ℕ). rounds round n (scene v (over y t) (b + done) (q + bad))) f ∙ g.goes t k b q;
        still = λ e. absurd (c (omega (arith, e)));
      }

  -- one that found nothing ready
  pub going_rest : (r : Round) (z : Parts) → Rounded v y r z → r.rebuilt + r.spoilt ≡ 0 → Settled w x (record { window = r.window; rebuilt = done; spoilt = bad }) z
  unfolding settle round
  going_rest r z h e = record {
    few = omega (arith, g.counted);
    same-slots = h.same-slots ∙ g.same-slots;
    is = λ t k b q.
        let x₁ = scene v (over y t) (b + done) (q + bad) in
        let n : next x₁ ≡ none = h.rest e t (fits-now t k) (b + done) (q + bad) in
        let s : round_by (next x₁) x₁ ≡ x₁ = rw n in
        let one : b + done ≡ b + done + r.rebuilt = omega (arith, e) in
        let two : q + bad ≡ q + bad + r.spoilt = omega (arith, e) in
        ap₂ (scene r.window (over z t)) one two ∙ h.is t (fits-now t k) (b + done) (q + bad) ∙ s ∙ sym (rounds-rest left x₁ n) ∙ g.goes t k b q;
    still = λ o. h.still e ∙ g.still o;
  }

  -- as many as there were records in use
  pub going_done : left ≤ 0 → Settled w x (record { window = v; rebuilt = done; spoilt = bad }) y
  unfolding settle rounds
  going_done l = let z : left ≡ 0 = omega arith in record {
    few = omega (arith, g.counted);
    same-slots = g.same-slots;
    is = λ t k b q. ap (λ (n : ℕ). rounds round n (scene v (over y t) (b + done) (q + bad))) (sym z) ∙ g.goes t k b q;
    still = g.still;
  }
