-- What the limits of a profile add (004, 4.5.3 and 4.5.6): numbers that a card can keep small, never more than two cycles of a column at a time,
-- and bounds on when a column goes out.
use Rattle.std.specs.Prelude.{◌≡◌, ℕ, ◌+◌, ◌*◌, ◌-◌, ◌%◌, ◌≤◌, ◌<◌}
use Rattle.std.proofs.Math.Path.{ap}
use Rattle.std.proofs.Common.{ap₂, mod-lt, eq-or-lt_of_le, arith}
use Rattle.std.proofs.Math.Logic.{⊎_elim}
use Rattle.std.proofs.Math.Nat.{mul-le-mul_left, mul-le-mul_right}
use Rattle.schedule.specs.Schedule.{Arrangement, Aligned, Staggered, Cycle, shift, start, due, slot, taking}
use Rattle.schedule.specs.Exact.{cyc}
use Rattle.schedule.proofs.Exact.{lt-or-le, less_one, due_soon, member-before, taking-member, taking-early, quotient, remainder}
use Rattle.schedule.specs.Place.{Place}
use Rattle.schedule.specs.Numbers.{Small}
use Rattle.schedule.specs.Limits.{Alive}

module _ (L D : ℕ) (l : 0 < L) (d : 0 < D) where
  -- the columns have 2 * L slots
  pub slot_lt : (c : Cycle) → c.column < L → slot L c < 2 * L
  unfolding slot
  slot_lt c h = let m = mul-le-mul_left L (mod-lt c.cycle {m = 2} (omega arith)) in omega arith

  -- a slot belongs to one column, and to its even cycles or to its odd ones
  slot-one : (c e : Cycle) → c.column < L → e.column < L → slot L c ≡ slot L e → (c.column ≡ e.column) × (c.cycle % 2 ≡ e.cycle % 2)
  unfolding slot
  slot-one c e h k s =
      let p = remainder L (c.cycle % 2) c.column (slot L c) (omega arith) h in
      let q = remainder L (e.cycle % 2) e.column (slot L c) (omega arith) k in
      let r = quotient L (c.cycle % 2) c.column (slot L c) (omega arith) h in
      let t = quotient L (e.cycle % 2) e.column (slot L c) (omega arith) k in
      (omega arith, omega arith)

  module _ (a : Arrangement) where
    -- a later cycle of the same slot starts when the one before is gone
    after : (c e : Cycle) → c.column < L → c.column ≡ e.column → c.cycle + 2 ≤ e.cycle → due a L D c < start a L D e
    unfolding start
    after c e h k g =
        let f = ap (λ n. n + L * shift a D n) k in
        let n = mul-le-mul_right (L * D) g in
        omega (arith, due_soon L D l d a c h)

    -- two cycles that are alive with a packet have a slot each: never more than 2 * L are
    pub alive_one : (i : ℕ) (c e : Cycle) → Alive a L D i c → Alive a L D i e → slot L c ≡ slot L e → c ≡ e
    alive_one i c e u v s =
        let p = slot-one c e u.inside v.inside s in
        ⊎_elim (λ g. absurd (omega (arith, after c e u.inside p.0 (odd c.cycle e.cycle p.1 g), u.kept, v.begun)))
        (λ g. ⊎_elim (λ t. ap₂ cyc p.0 (omega arith)) (λ t. absurd (omega (arith, after e c v.inside (omega (arith, p.0)) (odd e.cycle c.cycle (omega (arith, p.1)) t), v.kept, u.begun))) (eq-or-lt_of_le g))
        (lt-or-le c.cycle e.cycle)
      where
        odd : (m n : ℕ) → m % 2 ≡ n % 2 → m < n → m + 2 ≤ n
        odd m n q h = omega arith

    -- what is alive and stands in the slot that takes a packet in is the cycle that the packet belongs to
    pub taken-one : (i : ℕ) (c : Cycle) → Alive a L D i c → slot L c ≡ slot L (taking a L D i) → c ≡ taking a L D i
    unfolding taking start
    taken-one i c u s = ⊎_elim early member (lt-or-le i (start a L D (taking a L D i)))
      where
        member : start a L D (taking a L D i) ≤ i → c ≡ taking a L D i
        member h =
            let m = taking-member L D l d a i h in
            alive_one i c (taking a L D i) u (record { inside = m.inside; begun = h; kept = omega (arith, member-before L D l d a (taking a L D i) m.index m.small, m.is) }) s

        early : i < start a L D (taking a L D i) → c ≡ taking a L D i
        early h =
            let p = slot-one c (taking a L D i) u.inside (mod-lt i l) s in
            let f = ap (λ n. n + L * shift a D n) p.0 in
            absurd (omega (arith, taking-early L D l d a i h, u.begun))

-- ---- for every permitted profile
module _ (L D : ℕ) (w : Small L D) where
  -- the counter stays below 300
  pub at_small : (p i : ℕ) → Place (L * D) p i → p < 300
  at_small p i h = omega (arith, h.bounded, w.matrix)

  -- at most 40 running columns
  pub slot_small : (c : Cycle) → c.column < L → slot L c < 40
  slot_small c h = omega (arith, slot_lt L D w.columns w.rows c h, w.columns_most)

  -- a column starts less than 200 packets before the one with which it goes out
  pub back-small : (a : Arrangement) (c : Cycle) → c.column < L → due a L D c - start a L D c < 200
  back-small a c h = omega (arith, due_soon L D w.columns w.rows a c h, w.matrix)

-- 004, 4.5.6: a column goes out L packets after its last member at the soonest, and L * D at the latest
pub gap : (a : Arrangement) (L D : ℕ) → 0 < L → 0 < D → (c : Cycle) → c.column < L
    → (start a L D c + (D - 1) * L + L ≤ due a L D c) × (due a L D c ≤ start a L D c + (D - 1) * L + L * D)
unfolding due start shift
gap Aligned L D l d c h =
    let k = less_one D c.column d in
    let m = less_one D L d in
    let n : c.column * (D - 1) ≤ L * (D - 1) = mul-le-mul_right (D - 1) (omega arith) in
    let r = mul-le-mul_left c.column d in
    (omega arith, omega arith)
gap Staggered L D l d c h = let m = mul-le-mul_left L d in (omega arith, omega arith)
