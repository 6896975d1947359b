-- What refusals 1 to 5 let pass, as facts, and back: a store in order (window's InOrder.antt) is one that satisfies View.antt's Good and Missing least_missing.
use Rattle.std.specs.Prelude.{◌≡◌, refl, Bool, true, false, ℕ, ◌*◌, ◌<◌, length, eqb}
use Rattle.std.proofs.Common.{sym, ap, ◌∙◌, true≢false, arith, eqb-true, eq-eqb, le-ltb}
use Rattle.std.proofs.Math.Decide.{ℕ_discrete, dec_lt}
use Rattle.answer.specs.First.{None}
use Rattle.sequence.proofs.Lists.{and_split as both}
use Rattle.window.specs.declared.Window.{Window}
use Rattle.window.specs.Limits.{least_missing, rows, set_up_tests}
use Rattle.window.specs.Bounds.{Sized}
use Rattle.window.specs.InOrder.{InOrder, order_in}
use Rattle.window.specs.Store.{Store, short_store, record_at}
use Rattle.window.specs.Order.{is_in_use, same_group, disorder}
use Rattle.calls.specs.State.{recount}
use Rattle.calls.specs.Call.{standing_tests}
use Rattle.calls.specs.Standing.{Standing}
use Rattle.guarantee.specs.View.{check_at, Good, Missing}

-- where every part is long enough, refusal 4 does not apply
not_short : (w : Window) (s : Store) → Sized w s → short_store w s ≡ false
not_short w s f =
    rw (
      le-ltb (length s.media) (w.n * w.p) f.media-long,
      le-ltb (length s.timestamps) w.n f.timestamps-long,
      le-ltb (length s.lengths) w.n f.lengths-long,
      le-ltb (length s.marks) w.n f.marks-long,
      le-ltb (length s.parity) (rows w * w.p) f.parity-long,
      le-ltb (length s.records) (rows w) f.records-long,
    )

module _ (w : Window) (a u : ℕ) (s : Store) where
  -- what refusals 4 and 5 let pass
  pub record Ordered : Type 0 where
    pub good : Good w a u s
    pub waits : Missing least_missing w s

  -- a store that is long enough and in order
  order-good : Sized w s → InOrder (recount w a u) s → Ordered
  order-good f o = record {
    good = record {
      fits = f;
      mark = o.good_marks;
      long = o.good_lengths;
      good_use_mark = o.uses_good;
      shaped = λ r h e. let z = o.records_wait r h e in record { known = z.stream_high; rows = z.row-permitted; within = z.lies-inside };
      sized = λ r h e. (o.records_wait r h e).size-good;
      apart = λ q r hq hr eq er e. unlike q r hq hr eq er e (ℕ_discrete q r) (dec_lt q r);
      presents = o.present-count;
      in_use = o.use_count;
    };
    waits = record { least = λ r h e. (o.records_wait r h e).waits_for };
  }
    where
      clash : (q r : ℕ) → q < r → r < rows w → is_in_use w s q ≡ true → is_in_use w s r ≡ true → check_at s q ≡ check_at s r → ⊥
      clash q r l h eq er e =
          let y : same_group (record_at s q) (record_at s r) ≡ true = rw (eq-eqb _ _ (ap (λ (k : ℕ × ℕ). k.0) e), eq-eqb _ _ (ap (λ (k : ℕ × ℕ). k.1) e)) in
          true≢false (sym y ∙ (o.records_wait r h er).is_the_first q l eq)

      unlike : (q r : ℕ) → q < rows w → r < rows w → is_in_use w s q ≡ true → is_in_use w s r ≡ true → check_at s q ≡ check_at s r → Dec (q ≡ r) → Dec (q < r) → q ≡ r
      unlike q r hq hr eq er e (yes z) l = z
      unlike q r hq hr eq er e (no z) (yes l) = absurd (clash q r l hr eq er e)
      unlike q r hq hr eq er e (no z) (no l) = absurd (clash r q (omega arith) hq er eq (sym e))

  -- such a store is in order
  pub good-order : Ordered → disorder (recount w a u) s ≡ false
  good-order o = order_in (recount w a u) s (record {
    good_marks = o.good.mark;
    good_lengths = o.good.long;
    uses_good = o.good.good_use_mark;
    records_wait = λ r h e. let z = o.good.shaped r h e in record {
      stream_high = z.known;
      row-permitted = z.rows;
      lies-inside = z.within;
      size-good = o.good.sized r h e;
      is_the_first = λ q l i. first r h e q l i (same_group (record_at s q) (record_at s r)) refl;
      waits_for = o.waits.least r h e;
    };
    present-count = o.good.presents;
    use_count = o.good.in_use;
  })
    where
      first : (r : ℕ) → r < rows w → is_in_use w s r ≡ true → (q : ℕ) → q < r → is_in_use w s q ≡ true → (b : Bool) → same_group (record_at s q) (record_at s r) ≡ b → b ≡ false
      first r h e q l i false y = refl
      first r h e q l i true y =
          let z = both (eqb (record_at s q).stream (record_at s r).stream) (eqb (record_at s q).snbase (record_at s r).snbase) y in
          let b = eqb-true (record_at s q).stream (record_at s r).stream z.0 in
          let c = eqb-true (record_at s q).snbase (record_at s r).snbase z.1 in
          absurd (let d = o.good.apart q r (omega arith) h i e (λ j. (b j, c j)) in omega arith)

  -- what refusals 1 to 5 let pass
  pub standing : {room need : ℕ} → Standing (recount w a u) s room need → Ordered
  standing n =
      let z = n.sized in
      order-good (record { media-long = z.media-long; timestamps-long = z.timestamps-long; lengths-long = z.lengths-long; marks-long = z.marks-long; parity-long = z.parity-long; records-long = z.records-long }) n.order

  -- and back
  pub stands : None (set_up_tests w) → Ordered → None (standing_tests (recount w a u) s 0 0)
  stands n o = (n.0, (n.1.0, (n.1.1.0, (rw (not_short w s o.good.fits) refl, (good-order o, tt)))))
