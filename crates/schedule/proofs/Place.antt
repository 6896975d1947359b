-- The schedule repeats every two matrices, so that a counter which falls back by two does for the number of packets taken.
use Rattle.std.specs.Prelude.{◌≡◌, refl, Bool, true, false, cond, ◌&&◌, ℕ, suc, ◌+◌, ◌*◌, ◌-◌, ◌/◌, ◌%◌, ◌≤◌, ◌<◌, leb}
use Rattle.std.proofs.Common.{ap, ⊎_elim, mod-lt, le-div_iff_mul-le, mul-le-mul_left, eqb-true, eq-eqb, ne_eqb, arith}
use Rattle.std.proofs.Math.Path.{ap₂}
use Rattle.std.proofs.Math.Option.{Option, none, some, map}
use Rattle.std.proofs.Math.Nat.{div-add-mod'}
use Rattle.std.proofs.Math.Dec.{eqb}
use Rattle.std.proofs.lemmas.Bool.{eqb-false}
use Rattle.schedule.specs.Schedule.{Arrangement, Aligned, Staggered, Cycle, shift, start, due, turn, leaving, column_due, row_due, taking, slot, onward}
use Rattle.schedule.specs.Exact.{cyc}
use Rattle.schedule.proofs.Exact.{lt-or-le, quotient, remainder, shift-lt}
use Rattle.schedule.specs.Place.{later, Place}

pub eqb-add : (m n k : ℕ) → eqb (m + k) (n + k) ≡ eqb m n
eqb-add m n k = go (eqb m n) refl
  where
    go : (b : Bool) → eqb m n ≡ b → eqb (m + k) (n + k) ≡ b
    go true e = let f = eqb-true m n e in eq-eqb (m + k) (n + k) (omega arith)
    go false e = ne_eqb (m + k) (n + k) (λ f. eqb-false m n e (omega arith))

cond_map : {A B : Type 0} (f : A → B) (b : Bool) (x : A) → cond b (some (f x)) none ≡ map f (cond b (some x) none)
cond_map f true x = refl
cond_map f false x = refl

module _ (L D : ℕ) (l : 0 < L) (d : 0 < D) (p t : ℕ) where
  pub start-later : (a : Arrangement) (c : Cycle) → start a L D (later t c) ≡ start a L D c + t * (2 * (L * D))
  unfolding start
  start-later a c = omega arith

  due-later : (a : Arrangement) (c : Cycle) → due a L D (later t c) ≡ due a L D c + t * (2 * (L * D))
  unfolding due start shift
  due-later Aligned c = omega arith
  due-later Staggered c = omega arith

  full : 0 < L * D
  full = let m = mul-le-mul_left L d in omega arith

  line-later : (p + t * (2 * (L * D))) / L ≡ p / L + t * (2 * D)
  line-later = quotient L (p / L + t * (2 * D)) (p % L) _ (omega (arith, div-add-mod' p L)) (mod-lt p l)

  pub place-later : (p + t * (2 * (L * D))) % L ≡ p % L
  place-later = remainder L (p / L + t * (2 * D)) (p % L) _ (omega (arith, div-add-mod' p L)) (mod-lt p l)

  matrix-later : (p + t * (2 * (L * D))) / (L * D) ≡ p / (L * D) + t * 2
  matrix-later = quotient (L * D) (p / (L * D) + t * 2) (p % (L * D)) _ (omega (arith, div-add-mod' p (L * D))) (mod-lt p full)

  phase-later : (p + t * (2 * (L * D))) % (L * D) ≡ p % (L * D)
  phase-later = remainder (L * D) (p / (L * D) + t * 2) (p % (L * D)) _ (omega (arith, div-add-mod' p (L * D))) (mod-lt p full)

  turn-later : (a : Arrangement) → turn a L D (p + t * (2 * (L * D))) ≡ turn a L D p
  unfolding turn
  turn-later Aligned = rw phase-later
  turn-later Staggered = place-later

  module _ (a : Arrangement) (h : L * D ≤ p) where
    leaving-later : leaving a L D (p + t * (2 * (L * D))) ≡ later t (leaving a L D p)
    unfolding leaving
    leaving-later = ap₂ cyc (turn-later a) (let m = (le-div_iff_mul-le full).1 h' in omega (arith, matrix-later))
      where
        h' : 1 * (L * D) ≤ p
        h' = omega arith

    pub taking-later : taking a L D (p + t * (2 * (L * D))) ≡ later t (taking a L D p)
    unfolding taking
    taking-later = ap₂ cyc place-later (rw (place-later, line-later)
        (quotient D ((p / L - shift a D (p % L)) / D + t * 2) ((p / L - shift a D (p % L)) % D) _
        (omega (arith, div-add-mod' (p / L - shift a D (p % L)) D, shift-lt L D l d a (p % L), (le-div_iff_mul-le l).1 g)) (mod-lt _ d)))
      where
        g : D * L ≤ p
        g = omega arith

    pub column_due-later : column_due a L D (p + t * (2 * (L * D))) ≡ map (later t) (column_due a L D p)
    unfolding column_due
    column_due-later = rw (leaving-later, due-later a (leaving a L D p), eqb-add) (cond_map (later t) (eqb (due a L D (leaving a L D p)) p) (leaving a L D p))

  pub row_due-later : row_due L (p + t * (2 * (L * D))) ≡ map (λ s. s + t * (2 * (L * D))) (row_due L p)
  unfolding row_due
  row_due-later =
      let e : (p / L + t * (2 * D)) * L ≡ p / L * L + t * (2 * (L * D)) = omega arith in
      rw (place-later, line-later, e) (cond_map (λ s. s + t * (2 * (L * D))) (leb 4 L && eqb (p % L + 1) L) (p / L * L))

pub onward-place : (N p i : ℕ) → 0 < N → Place N p i → Place N (onward N p) (suc i)
unfolding onward
onward-place N p i n w = go (eqb (p + 1) (3 * N)) refl
  where
    go : (b : Bool) → eqb (p + 1) (3 * N) ≡ b → Place N (cond b N (p + 1)) (suc i)
    go true e =
        let f = eqb-true (p + 1) (3 * N) e in
        record { turns = suc w.turns; is = omega (arith, w.is); first = λ h. absurd (omega arith); bounded = omega arith }
    go false e =
        let f : ¬ (p + 1 ≡ 3 * N) = eqb-false (p + 1) (3 * N) e in
        record { turns = w.turns; is = omega (arith, w.is); first = λ h. w.first (omega arith); bounded = omega (arith, w.bounded) }

-- and from the first packet on
pub place-start : (N : ℕ) → 0 < N → Place N 0 0
place-start N n = record { turns = 0; is = omega arith; first = λ h. refl; bounded = omega arith }

module _ (L D : ℕ) (l : 0 < L) (d : 0 < D) where
  pub slot-later : (t : ℕ) (c : Cycle) → slot L (later t c) ≡ slot L c
  unfolding slot
  slot-later t c = let e : (c.cycle + t * 2) % 2 ≡ c.cycle % 2 = omega arith in rw e

  later-none : (c : Cycle) → c ≡ later 0 c
  later-none c = let e : c.cycle + 0 * 2 ≡ c.cycle = omega arith in rw e

  later-zero : (q : Option Cycle) → q ≡ map (later 0) q
  later-zero none = refl
  later-zero (some c) = ap some (later-none c)

  module _ (a : Arrangement) (p i : ℕ) (w : Place (L * D) p i) where
    same_first : p < L * D → i ≡ p
    same_first h = let e = ap (λ t. t * (2 * (L * D))) (w.first h) in omega (arith, w.is)

    pub column_due-place : column_due a L D i ≡ map (later w.turns) (column_due a L D p)
    column_due-place = ⊎_elim
        (λ h. rw (same_first h, w.first h) (later-zero _))
        (λ h. rw w.is (column_due-later L D l d p w.turns a h))
        (lt-or-le p (L * D))

    pub taking-place : taking a L D i ≡ later w.turns (taking a L D p)
    taking-place = ⊎_elim
        (λ h. rw (same_first h, w.first h) (later-none _))
        (λ h. rw w.is (taking-later L D l d p w.turns a h))
        (lt-or-le p (L * D))

    pub start-place : (c : Cycle) → start a L D (later w.turns c) ≡ start a L D c + w.turns * (2 * (L * D))
    start-place = start-later L D l d p w.turns a

    -- whether it is the first of its column, and its slot
    pub first-place : eqb (start a L D (taking a L D i)) i ≡ eqb (start a L D (taking a L D p)) p
    first-place = rw (taking-place, start-place (taking a L D p)) (rw w.is (eqb-add (start a L D (taking a L D p)) p (w.turns * (2 * (L * D)))))

    pub slot-place : slot L (taking a L D i) ≡ slot L (taking a L D p)
    slot-place = rw taking-place (slot-later w.turns (taking a L D p))

    -- the place in its row, and the row that it ends
    pub line-place : i % L ≡ p % L
    line-place = rw w.is (place-later L D l d p w.turns)

    pub row_due-place : row_due L i ≡ map (λ s. s + w.turns * (2 * (L * D))) (row_due L p)
    row_due-place = rw w.is (row_due-later L D l d p w.turns)
