-- A store in order is at rest, and so is one that a parity packet with enough missing has gone into: settling changes nothing. Assumes nothing.
use Rattle.std.specs.Prelude.{◌≡◌, refl, Bool, true, false, ◌&&◌, ℕ, zero, suc, ◌<◌, ◌≤◌, eqb, length}
use Rattle.std.proofs.Common.{sym, ap, ◌∙◌, arith, get_or-set_same, get_or-set_other, ne_eqb, eqb-true}
use Rattle.std.proofs.Math.Option.{none}
use Rattle.std.proofs.lemmas.Bool.{eqb-false}
use Rattle.peel.specs.Rest.{rounds}
use Rattle.window.specs.declared.Record.{Record}
use Rattle.window.specs.declared.Window.{Window}
use Rattle.window.specs.Record.{blank}
use Rattle.window.specs.Limits.{least_missing}
use Rattle.window.specs.Store.{Store}
use Rattle.window.specs.Group.{group, missing}
use Rattle.window.specs.Order.{is_in_use, missing_at}
use Rattle.window.specs.InOrder.{InOrder}
use Rattle.calls.specs.Content.{Recovery}
use Rattle.calls.specs.State.{State, scene, held_record, hold}
use Rattle.calls.specs.Settle.{ready, next_below, next, round_by, round, settle}

-- no record of the first m is ready
none_below : (x : State) (m : ℕ) → ((r : ℕ) → r < m → ready x r ≡ false) → next_below x m ≡ none
none_below x zero h = refl
none_below x (suc m) h = rw (none_below x m (λ r l. h r (omega arith)), h m (omega arith))

pub none-ready : (x : State) → ((r : ℕ) → r < x.window.k → ready x r ≡ false) → next x ≡ none
unfolding next
none-ready x h = none_below x x.window.k h

-- rounds come to rest where no record is ready
pub rounds-rest : (n : ℕ) (x : State) → next x ≡ none → rounds round n x ≡ x
unfolding rounds round
rounds-rest zero x e = refl
rounds-rest (suc n) x e = let f : round_by (next x) x ≡ x = rw e in ap (rounds round n) f ∙ rounds-rest n x e

pub settle-rest : (x : State) → next x ≡ none → settle x ≡ x
unfolding settle
settle-rest x e = rounds-rest x.window.in_use x e

-- with no record in use there is nothing to settle
pub settle-none : (x : State) → x.window.in_use ≡ 0 → settle x ≡ x
unfolding settle rounds
settle-none x e = ap (λ (n : ℕ). rounds round n x) e

-- a record that waits for enough is not ready
waits-not : (used : Bool) (n : ℕ) → (used ≡ true → least_missing ≤ n) → (used && eqb n 1) ≡ false
waits-not true n h = ne_eqb n 1 (λ e. omega (arith, h refl))
waits-not false n h = refl

module _ (w : Window) (s : Store) (o : InOrder w s) where
  pub order-rest : (b q : ℕ) → settle (scene w s b q) ≡ scene w s b q
  order-rest b q = settle-rest (scene w s b q) (none-ready (scene w s b q) (λ r l. waits-not (is_in_use w s r) (length (missing_at w s r)) (λ u. (o.records_wait r l u).waits_for)))

  -- one packet more in hand, with enough of its group missing
  pub held-rest : (f stream snbase : ℕ) (c : Recovery) (b q : ℕ) → least_missing ≤ length (missing s.marks (group w stream snbase)) → f < length s.records → settle (hold f stream snbase c (scene w s b q)) ≡ hold f stream snbase c (scene w s b q)
  held-rest f stream snbase c b q many fits = settle-rest x (none-ready x (λ r l. waits-not (is_in_use x.window x.store r) (length (missing_at x.window x.store r)) (waits r l (eqb r f) refl)))
    where
      x : State
      x = hold f stream snbase c (scene w s b q)

      waits : (r : ℕ) → r < w.k → (t : Bool) → eqb r f ≡ t → is_in_use x.window x.store r ≡ true → least_missing ≤ length (missing_at x.window x.store r)
      waits r l true e u = rw (eqb-true r f e, get_or-set_same s.records f (held_record stream snbase c) blank fits) many
      waits r l false e u =
          let other = get_or-set_other s.records f r (held_record stream snbase c) blank (eqb-false r f e) in
          rw other (o.records_wait r l (ap (λ (v : Record). eqb v.in_use 1) (sym other) ∙ u)).waits_for
