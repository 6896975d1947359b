-- The schedule is exact: what is due with a packet goes out with it, once, and nothing else; and where a packet belongs.
use Rattle.std.proofs.Math.Path.{◌≡◌, refl, ap₂}
use Rattle.std.proofs.Common.{sym, ◌∙◌, ap, inl, inr, mod-eq_of_lt, div-lt_iff_lt-mul, div-mul-le_self, ℕ, zero, suc, ◌+◌, ◌*◌, ◌-◌, ◌/◌, ◌%◌, ◌≤◌, ◌<◌, arith, ltb-true, ltb-false, eqb-true, eq-eqb, le-leb}
use Rattle.std.specs.Prelude.{Bool, ◌&&◌, ◌⊎◌, leb, ltb}
use Rattle.std.proofs.Math.Bool.{true, false, cond}
use Rattle.std.proofs.Math.Logic.{⊎_elim}
use Rattle.std.proofs.Math.Option.{none, some}
use Rattle.std.proofs.Math.Nat.{mod-lt, mul-add-mod_self_right, div-eq_of_lt-le, div-add-mod', mul-le-mul_left, mul-le-mul_right}
use Rattle.std.proofs.Math.Dec.{eqb}
use Rattle.std.proofs.lemmas.Bool.{lt-leb}
use Rattle.schedule.specs.Arrangement.{aligned_column, staggered_column}
use Rattle.schedule.specs.Schedule.{Arrangement, Aligned, Staggered, Cycle, shift, start, due, turn, leaving, column_due, row_due, taking}
use Rattle.schedule.specs.Exact.{Due, Member, cyc}

-- the starts are those of document 01's arrangements
pub start_aligned : (L D : ℕ) (c : Cycle) → start Aligned L D c ≡ aligned_column L D c.cycle c.column
unfolding start shift
start_aligned L D c = omega arith

pub start-staggered : (L D : ℕ) (c : Cycle) → start Staggered L D c ≡ staggered_column L D c.cycle c.column
unfolding start shift
start-staggered L D c = omega arith

-- ---- numbers
pub lt-or-le : (m n : ℕ) → (m < n) ⊎ (n ≤ m)
lt-or-le m n = go (ltb m n) refl
  where
    go : (b : Bool) → ltb m n ≡ b → (m < n) ⊎ (n ≤ m)
    go true e = inl (ltb-true m n e)
    go false e = inr (ltb-false m n e)

pub quotient : (b x u i : ℕ) → i ≡ x * b + u → u < b → i / b ≡ x
quotient b x u i e h = div-eq_of_lt-le b (omega arith) (omega arith)

pub remainder : (b x u i : ℕ) → i ≡ x * b + u → u < b → i % b ≡ u
remainder b x u i e h = rw e (mul-add-mod_self_right x b u ∙ mod-eq_of_lt h)

-- a packet's line and place on it, by the cycle of its column
split_up : (L D k q s i : ℕ) → 0 < L → i ≡ q * L + k → k + L * s + (q - s) / D * (L * D) ≤ i → k + L * s + (q - s) / D * (L * D) + (q - s) % D * L ≡ i
split_up L D k q s i l e h = ⊎_elim
    (λ g. let m = mul-le-mul_left L g in absurd (omega arith))
    (λ g. let m = ap (λ n. n * L) (div-add-mod' (q - s) D) in let r : q ≡ (q - s) + s = omega arith in let t = ap (λ n. n * L) r in omega arith)
    (lt-or-le q s)

fits : (L D k q s i : ℕ) → 0 < L → i ≡ q * L + k → k + L * s ≤ i → k + L * s + (q - s) / D * (L * D) ≤ i
fits L D k q s i l e h = ⊎_elim
    (λ g. let m = mul-le-mul_left L g in absurd (omega arith))
    (λ g. let m = mul-le-mul_right L (div-mul-le_self (q - s) D) in let r : q ≡ (q - s) + s = omega arith in let t = ap (λ n. n * L) r in omega arith)
    (lt-or-le q s)

-- how far into the matrix a column goes out
phase : Arrangement → ℕ → ℕ → ℕ → ℕ
phase Aligned L D k = k * D
phase Staggered L D k = k + L * (k % D)

pub less_one : (D L : ℕ) → 0 < D → (D - 1) * L + L ≡ D * L
less_one zero L h = absurd (omega arith)
less_one (suc n) L h = let e : suc n - 1 ≡ n = omega arith in rw e (omega arith)

-- ---- facts, for any L and D above 0
module _ (L D : ℕ) (l : 0 < L) (d : 0 < D) where
  pub shift-lt : (a : Arrangement) (k : ℕ) → shift a D k < D
  unfolding shift
  shift-lt Aligned k = d
  shift-lt Staggered k = mod-lt k d

  phase-lt : (a : Arrangement) (k : ℕ) → k < L → phase a L D k < L * D
  unfolding phase
  phase-lt Aligned k h = let m = mul-le-mul_right D h in omega arith
  phase-lt Staggered k h = let m = mul-le-mul_left L (mod-lt k d) in omega arith

  due-is : (a : Arrangement) (c : Cycle) → due a L D c ≡ (c.cycle + 1) * (L * D) + phase a L D c.column
  unfolding phase due start shift
  due-is Aligned c = refl
  due-is Staggered c = let m = less_one D L d in omega arith

  -- a column goes out at its next cycle's start or later
  pub due-late : (a : Arrangement) (c : Cycle) → start a L D c + L * D ≤ due a L D c
  unfolding due start shift
  due-late Aligned c = let m = mul-le-mul_left c.column d in omega arith
  due-late Staggered c = let m = less_one D L d in omega arith

  module _ (a : Arrangement) where
    -- a column goes out before its next cycle but one starts: two slots are enough for a column
    pub due_soon : (c : Cycle) → c.column < L → due a L D c < start a L D c + 2 * (L * D)
    unfolding start
    due_soon c h = omega (arith, due-is a c, phase-lt a c.column h)

    -- every member comes before its column goes out
    pub member-before : (c : Cycle) (j : ℕ) → j < D → start a L D c + j * L < due a L D c
    member-before c j h = let m = mul-le-mul_right L h in omega (arith, due-late a c)

    pub turn-lt : (b : Arrangement) (i : ℕ) → turn b L D i < L
    unfolding turn
    turn-lt Aligned i = let m = mul-le-mul_left L d in (div-lt_iff_lt-mul d).1 (mod-lt i (omega arith))
    turn-lt Staggered i = mod-lt i l

    -- what column_due gives is due with that packet
    pub column_due-due : (i : ℕ) (c : Cycle) → column_due a L D i ≡ some c → Due a L D i c
    unfolding column_due leaving
    column_due-due i c = go (eqb (due a L D (leaving a L D i)) i) refl
      where
        go : (b : Bool) → eqb (due a L D (leaving a L D i)) i ≡ b → cond b (some (leaving a L D i)) none ≡ some c → Due a L D i c
        go true e q =
            let f : leaving a L D i ≡ c = cc in
            rw (← f) (record { inside = turn-lt a i; at = eqb-true _ _ e })
        go false e q = absurd (let z : ◌≡◌ {A = ℕ} 0 1 = cc in omega arith)

    turn-due : (b : Arrangement) (c : Cycle) (i : ℕ) → c.column < L → due b L D c ≡ i → turn b L D i ≡ c.column
    unfolding turn phase
    turn-due Aligned c i h e =
        rw (remainder (L * D) (c.cycle + 1) (c.column * D) i (sym e ∙ due-is Aligned c) (phase-lt Aligned c.column h))
        (quotient D c.column 0 (c.column * D) (omega arith) d)
    turn-due Staggered c i h e =
        remainder L (c.column % D + (c.cycle + 1) * D) c.column i (omega (arith, due-is Staggered c)) h

    -- and it gives all that is due: with each packet one cycle at the most
    pub due-column_due : (i : ℕ) (c : Cycle) → Due a L D i c → column_due a L D i ≡ some c
    unfolding column_due leaving
    due-column_due i c h =
        let q = quotient (L * D) (c.cycle + 1) (phase a L D c.column) i (sym h.at ∙ due-is a c) (phase-lt a c.column h.inside) in
        let f : leaving a L D i ≡ c = ap₂ cyc (turn-due a c i h.inside h.at) (omega arith) in
        rw (f, eq-eqb (due a L D c) i h.at)

    -- a packet is a member of the cycle that it gets, unless it comes before that starts
    pub taking-member : (i : ℕ) → start a L D (taking a L D i) ≤ i → Member a L D i (taking a L D i)
    unfolding taking start
    taking-member i h = record {
      inside = mod-lt i l;
      index = (i / L - shift a D (i % L)) % D;
      small = mod-lt _ d;
      is = split_up L D (i % L) (i / L) (shift a D (i % L)) i l (sym (div-add-mod' i L)) h;
    }

    -- and then it comes before the column's first start
    pub taking-early : (i : ℕ) → i < start a L D (taking a L D i) → i < i % L + L * shift a D (i % L)
    unfolding taking start
    taking-early i h = ⊎_elim (λ g. g)
        (λ g. absurd (omega (arith, fits L D (i % L) (i / L) (shift a D (i % L)) i l (sym (div-add-mod' i L)) g)))
        (lt-or-le i (i % L + L * shift a D (i % L)))

    -- a member's cycle is the one that it gets: a packet is in one cycle at the most
    pub taking-is : (i : ℕ) (c : Cycle) → Member a L D i c → taking a L D i ≡ c
    unfolding taking start
    taking-is i c m =
        let n : ℕ = shift a D c.column + c.cycle * D + m.index in
        let e : i ≡ n * L + c.column = omega (arith, m.is) in
        let r : i % L ≡ c.column = remainder L n c.column i e m.inside in
        let q : i / L ≡ n = quotient L n c.column i e m.inside in
        ap₂ cyc r (rw (r, q) (quotient D c.cycle m.index _ (omega arith) m.small))

    -- a start belongs to one cycle
    pub start-one : (c e : Cycle) → c.column < L → e.column < L → start a L D c ≡ start a L D e → c ≡ e
    start-one c e h k s =
        let m : Member a L D (start a L D e) c = record { inside = h; index = 0; small = d; is = omega arith } in
        let n : Member a L D (start a L D e) e = record { inside = k; index = 0; small = d; is = omega arith } in
        sym (taking-is (start a L D e) c m) ∙ taking-is (start a L D e) e n

    -- the row due ends with the packet
    pub row_due-last : (i s : ℕ) → row_due L i ≡ some s → (i / L * L ≡ s) × (s + L ≡ suc i)
    unfolding row_due
    row_due-last i s = go (leb 4 L) (eqb (i % L + 1) L) refl
      where
        go : (b c : Bool) → eqb (i % L + 1) L ≡ c → cond (b && c) (some (i / L * L)) none ≡ some s → (i / L * L ≡ s) × (s + L ≡ suc i)
        go true true e q = let f : i / L * L ≡ s = cc in (f, omega (arith, eqb-true (i % L + 1) L e, div-add-mod' i L))
        go true false e q = absurd (let z : ◌≡◌ {A = ℕ} 0 1 = cc in omega arith)
        go false c e q = absurd (let z : ◌≡◌ {A = ℕ} 0 1 = cc in omega arith)

    -- the row with that last member is due, where L is at least 4
    pub last-row_due : (q : ℕ) → 4 ≤ L → row_due L (q * L + (L - 1)) ≡ some (q * L)
    unfolding row_due
    last-row_due q h =
        rw (
          remainder L q (L - 1) (q * L + (L - 1)) refl (omega arith),
          quotient L q (L - 1) (q * L + (L - 1)) refl (omega arith),
          le-leb 4 L h,
          eq-eqb (L - 1 + 1) L (omega arith),
        )

    -- and no row where it is less
    pub no-row_due : (i : ℕ) → L < 4 → row_due L i ≡ none
    unfolding row_due
    no-row_due i h = rw (lt-leb 4 L h)

    -- with a packet one cycle is due at the most
    pub due-one : (i : ℕ) (c e : Cycle) → Due a L D i c → Due a L D i e → c ≡ e
    due-one i c e h k = let f = due-column_due i c h in let g = due-column_due i e k in cc
