-- The numbers of the schedule as the code works them out: what they are, their sizes, and the ways through the code.
use Rattle.std.specs.Prelude.{◌≡◌, ℕ, ◌*◌, ◌-◌, ◌/◌, ◌%◌, ◌≤◌, ◌<◌, eqb, Option, Some, None}
use Rattle.std.proofs.Common.{mul-le-mul, div-le_self, arith, eq-eqb, ne_eqb}
use Rattle.schedule.specs.declared.Leaving.{Leaving}
use Rattle.schedule.specs.declared.Joining.{Joining}
use Rattle.schedule.specs.Schedule.{Arrangement, shift, start, due, turn, leaving, column_due, taking, slot}
use Rattle.schedule.specs.Exact.{cyc}
use Rattle.schedule.proofs.Exact.{shift-lt, turn-lt}
use Rattle.schedule.specs.Numbers.{Small, leaving_at, joining_at}

-- ---- sizes
module _ (l d : ℕ) (s : Small l d) where
  pub line_small : (a : Arrangement) (k : ℕ) → l * shift a d k ≤ 400
  line_small a k = let h : shift a d k ≤ 20 = omega (arith, shift-lt l d s.columns s.rows a k, s.rows_most) in mul-le-mul s.columns_most h

  pub cycles_small : (m : ℕ) → m ≤ 301 → m * (l * d) ≤ 30100
  cycles_small m h = mul-le-mul h s.matrix

  pub column-small : (k : ℕ) → k < l → k * d ≤ 400
  column-small k h = let g : k ≤ 20 = omega (arith, s.columns_most) in mul-le-mul g s.rows_most

  pub lines-small : (d - 1) * l ≤ 400
  lines-small = let g : d - 1 ≤ 20 = omega (arith, s.rows_most) in mul-le-mul g s.columns_most

  pub matrix-some : 0 < l * d
  matrix-some = mul-le-mul s.columns s.rows

  pub start_small : (a : Arrangement) (k m : ℕ) → k < l → m ≤ 300 → start a l d (cyc k m) ≤ 31000
  unfolding start
  start_small a k m h n = omega (arith, line_small a k, cycles_small m (omega arith), s.columns_most)

  pub turn_small : (a : Arrangement) (at k : ℕ) → k ≡ turn a l d at → k < l
  turn_small a at k e = rw e (turn-lt l d s.columns s.rows a a at)

pub cycle-small : (at n m : ℕ) → at < 300 → m ≡ at / n - 1 → m ≤ 300
cycle-small at n m h e = omega (arith, div-le_self at n)

pub taking-small : (at l d f r : ℕ) → at < 300 → r ≡ at / l - f → r / d ≤ 300
taking-small at l d f r h e = omega (arith, div-le_self at l, div-le_self r d)

pub slot-fits : (l m : ℕ) → l ≤ 20 → l * (m % 2) ≤ 20
slot-fits l m h = let g : m % 2 ≤ 1 = omega arith in mul-le-mul h g

-- ---- the ways through the code
module _ (a : Arrangement) (l d at k m u s t b : ℕ) (p : k ≡ turn a l d at) (q : m ≡ at / (l * d) - 1) (e : u ≡ due a l d (cyc k m)) where
  pub leaving-sends : s ≡ start a l d (cyc k m) → t ≡ slot l (cyc k m) → b ≡ at - s → u ≡ at → ◌≡◌ {A = Option Leaving} (Some (record { slot = t; back = b })) (leaving_at a l d at)
  unfolding leaving_at column_due leaving
  leaving-sends f g h z =
      let w : due a l d (cyc (turn a l d at) (at / (l * d) - 1)) ≡ at = rw (← p, ← q, ← e) z in
      rw (eq-eqb _ _ w, h, f, g, p, q)

  pub leaving-none : ¬ (u ≡ at) → None ≡ leaving_at a l d at
  unfolding leaving_at column_due leaving
  leaving-none z = rw (ne_eqb (due a l d (cyc (turn a l d at) (at / (l * d) - 1))) at (λ w. z (rw (e, p, q) w)))

pub joining_is : (a : Arrangement) (l d at k m s t : ℕ) → k ≡ at % l → m ≡ (at / l - shift a d (at % l)) / d → s ≡ start a l d (cyc k m) → t ≡ slot l (cyc k m)
    → ◌≡◌ {A = Joining} (record { slot = t; first = eqb s at }) (joining_at a l d at)
unfolding joining_at taking
joining_is a l d at k m s t p q f g = rw (f, g, p, q)
