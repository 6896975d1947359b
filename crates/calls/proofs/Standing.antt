-- What every call but opening meets first, refusals 1 to 5: the ways through them, and what is known behind them. Assumes nothing.
use Rattle.std.specs.Prelude.{◌≡◌, Bool, true, false, not, ◌||◌, List, [], ◌∷◌, ◌++◌, ℕ, ltb}
use Rattle.std.proofs.Common.{sym, ◌∙◌, ltb-false}
use Rattle.std.proofs.lemmas.Bool.{not-true, not-false}
use Rattle.answer.specs.First.{first, first_hit, first_past, first-end, first-none, first_stops, first_goes}
use Rattle.sequence.proofs.Lists.{or_split}
use Rattle.window.specs.declared.Window.{Window}
use Rattle.window.specs.Limits.{set_up_tests}
use Rattle.window.specs.Store.{Store, short_store}
use Rattle.window.specs.Bounds.{set_up_good, sizes-good}
use Rattle.window.specs.Order.{disorder}
use Rattle.window.specs.InOrder.{in_order}
use Rattle.calls.specs.Call.{standing_tests}
use Rattle.calls.specs.Standing.{standing_by, Standing}

module _ (w : Window) (s : Store) (room need : ℕ) where
  pub standing-good : first (standing_tests w s room need) ≡ 0 → Standing w s room need
  standing-good e =
      let none = first-none (standing_tests w s room need) (tt, (tt, (tt, (tt, (tt, tt))))) e in
      let four = or_split (short_store w s) (ltb room need) none.1.1.1.0 in
      record {
        set_up = set_up_good w (sym (first_past 0 1 _ _ none.0 (first_past 0 2 _ _ none.1.0 (first_past 0 3 _ _ none.1.1.0 first-end))));
        sized = sizes-good w s four.0;
        fits = ltb-false room need four.1;
        order = in_order w s none.1.1.1.1.0;
      }

  pub standing-known : (r : ℕ) → r ≡ first (standing_tests w s room need) → r ≡ 0 → Standing w s room need
  standing-known r e z = standing-good (sym e ∙ z)

  -- a call's own tests come after these
  pub standing-stops : (r : ℕ) (rest : List (ℕ × Bool)) → r ≡ first (standing_tests w s room need) → (r ≡ 0 → ⊥) → r ≡ first (standing_tests w s room need ++ rest)
  standing-stops r rest e h = e ∙ first_stops (standing_tests w s room need) rest (λ z. h (e ∙ z))

  pub standing-goes : (r k : ℕ) (rest : List (ℕ × Bool)) → r ≡ first (standing_tests w s room need) → r ≡ 0 → k ≡ first rest → k ≡ first (standing_tests w s room need ++ rest)
  standing-goes r k rest e z h = h ∙ first_goes (standing_tests w s room need) rest (tt, (tt, (tt, (tt, (tt, tt))))) (sym e ∙ z)

-- ---- the ways through the five tests
module _ (w : Window) (s : Store) (short : Bool) where
  pub set_up-stops : (r : ℕ) → r ≡ first (set_up_tests w) → (r ≡ 0 → ⊥) → r ≡ first (standing_by w s short)
  set_up-stops r e h = e ∙ first_stops (set_up_tests w) ((4, short_store w s || short) ∷ (5, disorder w s) ∷ []) (λ z. h (e ∙ z))

  module _ (ok : first (set_up_tests w) ≡ 0) where
    goes : (r : ℕ) → r ≡ first ((4, short_store w s || short) ∷ (5, disorder w s) ∷ []) → r ≡ first (standing_by w s short)
    goes r h = h ∙ first_goes (set_up_tests w) ((4, short_store w s || short) ∷ (5, disorder w s) ∷ []) (tt, (tt, (tt, tt))) ok

    pub store-stops : (short_store w s || short) ≡ true → 4 ≡ first (standing_by w s short)
    store-stops h = goes 4 (first_hit 4 (short_store w s || short) ((5, disorder w s) ∷ []) h)

    module _ (long : (short_store w s || short) ≡ false) where
      module _ (good : Bool) (e : good ≡ not (disorder w s)) where
        pub order-stops : not good ≡ true → 5 ≡ first (standing_by w s short)
        order-stops h = goes 5 (first_past 5 4 (short_store w s || short) ((5, disorder w s) ∷ []) long (first_hit 5 (disorder w s) [] (not-false (disorder w s) (sym e ∙ not-true good h))))

        pub none-stops : not good ≡ false → 0 ≡ first (standing_by w s short)
        none-stops h = goes 0 (first_past 0 4 (short_store w s || short) ((5, disorder w s) ∷ []) long (first_past 0 5 (disorder w s) [] (not-true (disorder w s) (sym e ∙ not-false good h)) first-end))
