-- A hand that was gathered of a table is laid over it; what a method leaves of it goes back. Assumes nothing.
use Rattle.std.proofs.Common.{◌≡◌, refl, sym, ap, subst, ◌∙◌, Bool, true, false, cond, List, ◌++◌, ℕ, ◌<◌, ◌≤◌, not-suc-le-zero, arith, length, take, length-append, length-take-le, Option, Some, None, IfSome, IfNone}
use Rattle.std.proofs.lemmas.List.{take-append-le}
use Rattle.answer.specs.Refused.{answer_of}
use Rattle.window.specs.declared.Record.{Record}
use Rattle.window.specs.declared.StoreView.{StoreView}
use Rattle.window.specs.Limits.{most_records}
use Rattle.window.specs.Store.{Store, stored, viewed}
use Rattle.calls.specs.Call.{Outcome, Written}
use Rattle.calls.specs.Move.{Moved, outcome_of}
use Rattle.table.specs.declared.Row.{Row}
use Rattle.table.specs.View.{scatter}
use Rattle.table.specs.Apart.{Within}
use Rattle.table.specs.Gather.{gathered, gathered-apart, gathered-scatter, gathered-within, gathered-length}
use Rattle.receiver.specs.declared.Step.{Step}
use Rattle.receiver.specs.Step.{Laid, table_of, Stepped, Wrote, Advanced}
use Rattle.face.specs.declared.Reply.{Reply}
use Rattle.face.specs.declared.Finished.{Finished}
use Rattle.face.specs.Reply.{numbered, replied, filled}
use Rattle.face.specs.Done.{reached, Lent, Done, Given, Carries}

-- no rows leave the table as it is
no_rows : (hs : List Row) (t : List Record) → scatter (take 0 hs) t ≡ t
unfolding scatter
no_rows hs t = refl

module _ (len k m : ℕ) (rows : List Row) (room : m < length rows) (t : List Record) (l : Lent len k m rows t) where
  few : length (gathered (reached len k) t) ≤ most_records
  few = omega (arith, gathered-length (reached len k) t)

  count-is : m ≡ length (gathered (reached len k) t)
  count-is = sym (length-take-le m rows l.enough) ∙ ap length l.these

  -- it is laid over the table
  laid : Laid k len m rows t
  laid = record {
    sized = l.sized;
    few = omega (arith, count-is, few);
    room = room;
    taken = record { apart = λ a b. let e : reached len k ≡ k = omega (arith, a, b, l.sized) in rw (l.these, e) (gathered-apart k t) };
  }

  -- scattered over it, it changes nothing
  table_is : table_of m rows t ≡ t
  table_is = ap (λ (hs : List Row). scatter hs t) l.these ∙ gathered-scatter (reached len k) t

  within-is : Within len (take m rows)
  within-is = subst (Within len) (sym l.these) (λ i h. omega (arith, gathered-within (reached len k) t i h))

-- an offer
module _ (call : Store → Outcome) (len k m : ℕ) (media timestamps lengths marks parity : List ℕ) (rows : List Row) (room : m < length rows) (media' timestamps' lengths' marks' parity' : List ℕ) (rows' : List Row) (r : Step)
    (s : Stepped call k len m media timestamps lengths marks parity rows media' timestamps' lengths' marks' parity' rows' r) where
  pub done : (f : Finished) → f.reply ≡ numbered (answer_of r.answer) r.receiver.window → f.rows ≡ cond r.changed r.rows 0
      → Done (λ x. replied (call x)) len k m media timestamps lengths marks parity rows media' timestamps' lengths' marks' parity' rows' f
  done f er en = record {
    within = λ t l. subst (λ (n : ℕ). Within len (take n rows')) (sym en) (inside t l r.changed);
    few = λ t l. rw en (fewer t l r.changed);
    is = λ t l.
        (λ i. record { reply = er i; store = stored media' timestamps' lengths' marks' parity' (table t l i) })
        ∙ ap replied (s.is t (laid len k m rows room t l) ∙ ap (λ (u : List Record). call (stored media timestamps lengths marks parity u)) (table_is len k m rows room t l));
  }
    where
      inside : (t : List Record) → Lent len k m rows t → (b : Bool) → Within len (take (cond b r.rows 0) rows')
      inside t l true = s.within t (laid len k m rows room t l) (within-is len k m rows room t l)
      inside t l false = λ i h. absurd (not-suc-le-zero h)

      fewer : (t : List Record) → Lent len k m rows t → (b : Bool) → cond b r.rows 0 ≤ length rows'
      fewer t l true = s.few t (laid len k m rows room t l)
      fewer t l false = omega arith

      table : (t : List Record) → Lent len k m rows t → scatter (take f.rows rows') t ≡ table_of r.rows rows' t
      table t l = ap (λ (n : ℕ). scatter (take n rows') t) en ∙ go r.changed refl
        where
          go : (b : Bool) → r.changed ≡ b → scatter (take (cond b r.rows 0) rows') t ≡ table_of r.rows rows' t
          go true e = refl
          go false e = no_rows rows' t ∙ sym (s.still t (laid len k m rows room t l) e ∙ table_is len k m rows room t l)

-- reading out or writing parity
pub given : (call : Store → List ℕ → Written) (len k m : ℕ) (store : StoreView) (rows : List Row) (out out' : List ℕ) → m < length rows → (r : Step) → Wrote call k len m store rows out out' r
    → (reply : Reply) → reply ≡ numbered (answer_of r.answer) r.receiver.window → Given (λ x o. filled (call x o)) len k m store rows out out' reply
given call len k m store rows out out' room r s reply er = record {
  is = λ t l.
      (λ i. record { reply = er i; out = out' })
      ∙ ap filled (s.is t (laid len k m rows room t l) ∙ ap (λ (u : List Record). call (viewed store u) out) (table_is len k m rows room t l));
}

-- a move
pub carries : (call : Store → Moved) (len k m : ℕ) (media timestamps lengths marks parity : List ℕ) (rows : List Row) → m < length rows → (media' timestamps' lengths' marks' parity' : List ℕ) (rows' : List Row) (out' sizes' : List ℕ) (r : Step)
    → Advanced call k len m media timestamps lengths marks parity rows media' timestamps' lengths' marks' parity' rows' out' sizes' r
    → (f : Finished) → f.reply ≡ numbered (answer_of r.answer) r.receiver.window → f.rows ≡ cond r.changed r.rows 0
    → Carries call len k m media timestamps lengths marks parity rows media' timestamps' lengths' marks' parity' rows' out' sizes' f
carries call len k m media timestamps lengths marks parity rows room media' timestamps' lengths' marks' parity' rows' out' sizes' r s f er en = record {
  done = done (λ x. outcome_of (call x)) len k m media timestamps lengths marks parity rows room media' timestamps' lengths' marks' parity' rows' r s.stepped f er en;
  out = λ t l. s.out t (laid len k m rows room t l) ∙ ap (λ (u : List Record). (call (stored media timestamps lengths marks parity u)).out) (table_is len k m rows room t l);
  sizes = λ t l. s.sizes t (laid len k m rows room t l) ∙ ap (λ (u : List Record). (call (stored media timestamps lengths marks parity u)).sizes) (table_is len k m rows room t l);
}

-- ---- gathering
-- rows that were lent but for the last one, gathered and put back
module _ (len k i : ℕ) (e : i ≡ reached len k) (us rest : List Row) (one : length rest ≡ 1) (t : List Record) where
  pub was_some : (o : Option ℕ) → length t ≡ len → IfSome o (λ n. (n ≤ length us) × (take n us ≡ gathered i t)) → IfSome o (λ m. (m < length (us ++ rest)) × Lent len k m (us ++ rest) t)
  was_some None z q = q
  was_some (Some m) z q =
      let long = length-append us rest in
      (omega (arith, q.0, long, one), record { sized = z; enough = omega (arith, q.0, long); these = take-append-le m us rest q.0 ∙ q.1 ∙ ap (λ (j : ℕ). gathered j t) e })

  pub was_none : (o : Option ℕ) → IfNone o (length us < length (gathered i t)) → IfNone o (length (us ++ rest) ≤ length (gathered (reached len k) t))
  was_none None q = subst (λ (j : ℕ). length (us ++ rest) ≤ length (gathered j t)) e (omega (arith, q, length-append us rest, one))
  was_none (Some m) q = q
