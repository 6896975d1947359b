-- The ways through the refusals of a move. Assumes nothing.
use mathlib.Core.Path.{◌≡◌, sym, ap, subst, ◌∙◌}
use mathlib.Core.Bool.{Bool, true, false, ◌||◌}
use mathlib.Core.List.{List, [], ◌∷◌}
use Prim.Native.Nat.{ℕ, ◌*◌}
use native.Mathlib.Omega.{arith}
use lib.Dec.{ltb}
use lib.ListN.{length}
use borrow.Author.Tests.{ltb-false}
use Rattle.answer.specs.First.{first, first_hit, first_past, first_stops, first_goes}
use Rattle.sequence.proofs.Lists.{or_split}
use Rattle.window.specs.declared.Sizes.{Sizes}
use Rattle.window.specs.declared.Window.{Window}
use Rattle.window.specs.Limits.{set_up_tests}
use Rattle.window.specs.Store.{Store, stored, short_store}
use Rattle.window.specs.Order.{disorder}
use Rattle.calls.specs.Move.{bad_move, slot_size, short_outputs, move_tests}
use Rattle.table.specs.declared.Row.{Row}
use Rattle.table.specs.View.{scatter}
use Rattle.table.specs.Apart.{alike_refl}
use Rattle.order.specs.Stands.{Stands, Stood}
use Rattle.moving.specs.Move.{Judged}

-- refusals 4 and 5
abbrev rest : Window → Store → (short : Bool) → List (ℕ × Bool)
rest w s short = (4, short_store w s || short) ∷ (5, disorder w s) ∷ []

module _ (w : Window) (by : ℕ) (z : Sizes) (room count : ℕ) (lengths marks : List ℕ) (hs : List Row) where
  -- a refusal that is given for every store
  refuses : (r : ℕ) → (r ≡ 0 → ⊥) → ((s : Store) (out sizes : List ℕ) → r ≡ first (move_tests w by s out sizes)) → Judged w by z room count lengths marks hs hs r
  refuses r h e = record {
    alike = alike_refl hs;
    is = λ media timestamps parity out sizes t _ _ _ _. e (stored media timestamps lengths marks parity (scatter hs t)) out sizes;
    stands = λ q. absurd (h q);
    some = λ q. absurd (h q);
    inside = λ q. absurd (h q);
    slots-long = λ q. absurd (h q);
    sizes-long = λ q. absurd (h q);
  }

  -- 1 to 3
  pub set_up-stops : (r : ℕ) → r ≡ first (set_up_tests w) → (r ≡ 0 → ⊥) → Judged w by z room count lengths marks hs hs r
  set_up-stops r e h = refuses r h (λ s out sizes. e ∙ first_stops (set_up_tests w) ((22, bad_move w by) ∷ rest w s (short_outputs w by out sizes)) (λ q. h (e ∙ q)))

  module _ (ok : first (set_up_tests w) ≡ 0) where
    goes : (r : ℕ) (s : Store) (out sizes : List ℕ) → r ≡ first ((22, bad_move w by) ∷ rest w s (short_outputs w by out sizes)) → r ≡ first (move_tests w by s out sizes)
    goes r s out sizes e = e ∙ first_goes (set_up_tests w) ((22, bad_move w by) ∷ rest w s (short_outputs w by out sizes)) (tt, (tt, (tt, tt))) ok

    -- 22
    pub move-stops : bad_move w by ≡ true → Judged w by z room count lengths marks hs hs 22
    move-stops b = refuses 22 (λ q. omega arith) (λ s out sizes. goes 22 s out sizes (first_hit 22 (bad_move w by) (rest w s (short_outputs w by out sizes)) b))

    -- 4 and 5, or none
    pub standing-says : bad_move w by ≡ false → (short : Bool) → short ≡ (ltb room (by * slot_size w) || ltb count by) → (hs' : List Row) (r : ℕ) → Stood w z short lengths marks hs hs' r → Judged w by z room count lengths marks hs hs' r
    standing-says b short e hs' r s = record {
      alike = s.alike;
      is = λ media timestamps parity out sizes t ez eo ec k.
          let x = stored media timestamps lengths marks parity (scatter hs t) in
          let q : short ≡ short_outputs w by out sizes = e ∙ ap (λ (n : ℕ). ltb n (by * slot_size w) || ltb count by) (sym eo) ∙ ap (λ (n : ℕ). ltb (length out) (by * slot_size w) || ltb n by) (sym ec) in
          let own : r ≡ first (rest w x short) = s.is media timestamps parity t ez k ∙ sym (first_goes (set_up_tests w) (rest w x short) (tt, (tt, (tt, tt))) ok) in
          goes r x out sizes (first_past r 22 (bad_move w by) (rest w x (short_outputs w by out sizes)) b (own ∙ ap (λ (t : Bool). first (rest w x t)) q));
      stands = λ q. let n = s.none q in subst (λ (t : Bool). Stands w z t lengths marks hs') n.fits n;
      some = λ q. ltb-false by 1 (or_split (ltb by 1) (ltb w.n by) b).0;
      inside = λ q. ltb-false w.n by (or_split (ltb by 1) (ltb w.n by) b).1;
      slots-long = λ q. ltb-false room (by * slot_size w) (both q).0;
      sizes-long = λ q. ltb-false count by (both q).1;
    }
      where
        both : r ≡ 0 → (ltb room (by * slot_size w) ≡ false) × (ltb count by ≡ false)
        both q = or_split (ltb room (by * slot_size w)) (ltb count by) (sym e ∙ (s.none q).fits)
