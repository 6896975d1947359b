-- The positions of a group that lies in the window as plain sums, and that none of them stands in it twice. Both rest on one fact: a window
-- and the span of a group together are no more than there are sequence numbers (`no_wrap`).
use Rattle.std.specs.Prelude.{◌≡◌, Bool, true, false, cond, ℕ, ◌+◌, ◌*◌, ◌-◌, ◌^◌, ◌<◌, ◌≤◌, eqb, ltb}
use Rattle.std.proofs.Common.{sym, ◌∙◌, mul-le-mul, mul-le-mul_right, arith, ltb-true}
use Rattle.sequence.specs.Lists.{count}
use Rattle.sequence.specs.Wrap.{member}
use Rattle.sequence.proofs.Wrap.{ahead-members, ahead_plain, below_last}
use Rattle.sequence.specs.Line.{line}
use Rattle.sequence.proofs.Line.{line-once}
use Rattle.rtp.specs.Fec.{offset_of, na_of}
use Rattle.window.specs.declared.Window.{Window}
use Rattle.window.specs.Limits.{width, most_side}
use Rattle.window.specs.Bounds.{Profile, SetUp}
use Rattle.window.specs.Group.{position, group, inside}

-- step and number of members of a stream's groups, within their limits
pub record Shape (l d stream : ℕ) : Type 0 where
  pub step_low : 1 ≤ offset_of stream l
  pub step_high : offset_of stream l ≤ most_side
  pub na-low : 0 < na_of stream l d
  pub na-high : na_of stream l d ≤ most_side
  pub span : (na_of stream l d - 1) * offset_of stream l ≤ most_side * most_side

by_stream : (l d : ℕ) → Profile l d → (t : Bool) → (1 ≤ cond t l 1) × (cond t l 1 ≤ most_side) × (0 < cond t d l) × (cond t d l ≤ most_side)
by_stream l d p true = (p.l-low, p.l-high, omega arith, p.d-high)
by_stream l d p false = (omega arith, omega arith, p.l-low, p.l-high)

pub shape_of : (l d stream : ℕ) → Profile l d → Shape l d stream
shape_of l d stream p =
    let b = by_stream l d p (eqb stream 0) in
    record { step_low = b.0; step_high = b.1; na-low = b.2; na-high = b.3; span = mul-le-mul {n₁ = na_of stream l d - 1} {n₂ = most_side} {m₂ = most_side} (omega arith) b.1 }

-- the position of member j as a plain sum
abbrev pub place : Window → (stream snbase j : ℕ) → ℕ
place w stream snbase j = position w snbase + j * offset_of stream w.l

-- each member's plain sum is a position of the window
pub record Inside (w : Window) (stream snbase : ℕ) : Type 0 where
  pub below : (j : ℕ) → j < na_of stream w.l w.d → place w stream snbase j < w.n

module _ (w : Window) (based : w.base < 2 ^ width) (u : SetUp w) (stream snbase : ℕ) where
  abbrev offset : ℕ
  offset = offset_of stream w.l

  abbrev na : ℕ
  na = na_of stream w.l w.d

  -- a window and the span of a group are no more than there are numbers
  pub no_wrap : w.n + (na - 1) * offset ≤ 2 ^ width
  no_wrap = let s = shape_of w.l w.d stream u.profile in omega (arith, s.span, u.n-high)

  -- a group lies in the window where its last member's plain sum does
  pub inside-last : inside w stream snbase ≡ ltb (place w stream snbase (na - 1)) w.n
  inside-last = below_last width w.base (omega arith) snbase offset na w.n (shape_of w.l w.d stream u.profile).na-low no_wrap

  pub inside_of : inside w stream snbase ≡ true → Inside w stream snbase
  inside_of e =
      let q = ltb-true (place w stream snbase (na - 1)) w.n (sym inside-last ∙ e) in
      record { below = λ j i. let m : j * offset ≤ (na - 1) * offset = mul-le-mul_right offset (omega arith) in omega arith }

  module _ (i : Inside w stream snbase) where
    short : (j : ℕ) → j < na → place w stream snbase j < 2 ^ width
    short j h = omega (arith, i.below j h, u.n-high)

    -- and then its positions are the plain sums
    pub member_plain : (j : ℕ) → j < na → position w (member width snbase offset j) ≡ place w stream snbase j
    member_plain j h = ahead_plain width w.base (omega arith) snbase offset j (short j h)

    pub member_below : (j : ℕ) → j < na → position w (member width snbase offset j) < w.n
    member_below j h = omega (arith, member_plain j h, i.below j h)

    pub group_plain : group w stream snbase ≡ line (position w snbase) offset na
    group_plain = ahead-members width w.base (omega arith) snbase offset na short

    -- no position stands in it twice
    pub group-once : (k : ℕ) → count (eqb k) (group w stream snbase) ≤ 1
    group-once k = rw group_plain (line-once (position w snbase) offset k na (shape_of w.l w.d stream u.profile).step_low)
