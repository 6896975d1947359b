-- A row is written, and one record more is gathered. Assumes nothing.
use Rattle.std.specs.Prelude.{◌≡◌, refl, Bool, true, false, not, List, [], ◌∷◌, ◌++◌, ℕ, zero, suc, ◌+◌, ◌-◌, ◌<◌, ◌≤◌, eqb, length, get_or, set, drop}
use Rattle.std.proofs.Common.{sym, ap, subst, ◌∙◌, arith, add-one, add-zero, length-append, drop-cons, eq-eqb, ne_eqb, eqb-true}
use Rattle.std.proofs.lemmas.Bool.{eqb-false}
use borrow.Author.Tests.{not-false}
use Rattle.std.proofs.Math.Seq.{drop-length}
use lib.Bits.{bit_or, or_add_and, and_le_l, and_le_r}
use Rattle.window.specs.declared.Record.{Record}
use Rattle.window.specs.Record.{blank}
use Rattle.table.specs.View.{Row, nobody, slot_at, it_at, scatter}
use Rattle.table.specs.Gather.{more, gathered}

-- of no record none is gathered
pub none-gathered : (t : List Record) → gathered 0 t ≡ []
unfolding gathered
none-gathered t = refl

-- one record more is gathered
pub one_more : (r : ℕ) (t : List Record) → more (gathered r t) r (get_or t r blank) ≡ gathered (r + 1) t
unfolding gathered
one_more r t = rw (add-one r)

-- an or that is 0 is one of zeros
no_bit : (a b : ℕ) → bit_or a b ≡ 0 → (a ≡ 0) × (b ≡ 0)
no_bit a b e = (omega (arith, or_add_and a b, and_le_l a b, and_le_r a b), omega (arith, or_add_and a b, and_le_l a b, and_le_r a b))

-- where the or of four numbers is 0 each is 0
pub no_bits : (a b c d : ℕ) → not (eqb (bit_or (bit_or (bit_or a b) c) d) 0) ≡ false → (a ≡ 0) × (b ≡ 0) × (c ≡ 0) × (d ≡ 0)
no_bits a b c d e =
    let x = no_bit (bit_or (bit_or a b) c) d (eqb-true _ 0 (not-false _ e)) in
    let y = no_bit (bit_or a b) c x.0 in
    let z = no_bit a b y.0 in
    (z.0, z.1, y.1, x.1)

-- a free record more is not gathered
pub free_more : (t : List Record) (r : ℕ) → (get_or t r blank).in_use ≡ 0 → gathered (r + 1) t ≡ gathered r t
free_more t r z = sym (one_more r t) ∙ rw (eq-eqb (get_or t r blank).in_use 0 z) refl

-- one in use is, behind the others
pub held_more : (t : List Record) (r : ℕ) → ((get_or t r blank).in_use ≡ 0 → ⊥) → gathered (r + 1) t ≡ gathered r t ++ (record { slot = r; note = 0; it = get_or t r blank } ∷ [])
held_more t r u = sym (one_more r t) ∙ rw (ne_eqb (get_or t r blank).in_use 0 u) refl

-- of more records no fewer are gathered
pub no_fewer : (t : List Record) (r d : ℕ) → length (gathered r t) ≤ length (gathered (r + d) t)
no_fewer t r zero = rw (add-zero r) (omega arith)
no_fewer t r (suc d) =
    let e : r + suc d ≡ r + d + 1 = omega arith in
    let l = no_fewer t r d in
    rw e (go (eqb (get_or t (r + d) blank).in_use 0) refl l)
  where
    go : (b : Bool) → eqb (get_or t (r + d) blank).in_use 0 ≡ b → length (gathered r t) ≤ length (gathered (r + d) t) → length (gathered r t) ≤ length (gathered (r + d + 1) t)
    go true e l = rw (free_more t (r + d) (eqb-true _ 0 e)) l
    go false e l = rw (held_more t (r + d) (eqb-false _ 0 e), length-append (gathered (r + d) t) (record { slot = r + d; note = 0; it = get_or t (r + d) blank } ∷ [])) (omega arith)

-- a free record more, and still none is gathered
none_more : (t : List Record) (r : ℕ) → gathered r t ≡ [] → (get_or t r blank).in_use ≡ 0 → gathered (r + 1) t ≡ []
none_more t r e z = sym (one_more r t) ∙ rw (eq-eqb (get_or t r blank).in_use 0 z) e

-- four free records more, and still none is gathered
pub four_more : (t : List Record) (r : ℕ) → gathered r t ≡ [] → (get_or t r blank).in_use ≡ 0 → (get_or t (r + 1) blank).in_use ≡ 0 → (get_or t (r + 2) blank).in_use ≡ 0 → (get_or t (r + 3) blank).in_use ≡ 0 → gathered (r + 4) t ≡ []
four_more t r e a b c d =
    let e₁ : gathered (r + 1) t ≡ [] = none_more t r e a in
    let e₂ : gathered (r + 2) t ≡ [] = subst (λ (j : ℕ). gathered j t ≡ []) (omega arith) (none_more t (r + 1) e₁ b) in
    let e₃ : gathered (r + 3) t ≡ [] = subst (λ (j : ℕ). gathered j t ≡ []) (omega arith) (none_more t (r + 2) e₂ c) in
    subst (λ (j : ℕ). gathered j t ≡ []) (omega arith) (none_more t (r + 3) e₃ d)

-- rows i and on are back in the table
abbrev pub back : List Row → ℕ → List Record → List Record
back gs i t = scatter (drop i gs) t

module _ (hs : List Row) (t : List Record) where
  -- at first no row is back
  pub none_back : t ≡ back hs (length hs) t
  unfolding scatter
  none_back = rw (drop-length hs) refl

  -- one row more is back
  pub one_back : (i : ℕ) → 0 < i → i ≤ length hs → set (back hs i t) (slot_at hs (i - 1)) (it_at hs (i - 1)) ≡ back hs (i - 1) t
  unfolding scatter
  one_back i h n =
      let e : suc (i - 1) ≡ i = omega arith in
      ap (λ (j : ℕ). set (scatter (drop j hs) t) (slot_at hs (i - 1)) (it_at hs (i - 1))) (sym e) ∙ sym (ap (λ (gs : List Row). scatter gs t) (drop-cons hs (i - 1) nobody (omega arith)))
