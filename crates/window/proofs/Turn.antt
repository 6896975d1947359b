-- A turn of a loop that tests the numbers from 0 on. Assumes nothing.
use mathlib.Core.Path.{◌≡◌, refl, sym, ap, ◌∙◌}
use mathlib.Core.Bool.{Bool, true, false, cond, ◌&&◌, ◌||◌}
use Prim.Native.Nat.{ℕ, ◌+◌, ◌≤◌}
use native.Mathlib.Omega.{arith}
use mathlib.Core.List.{List}
use lib.Bits.{bit_and, bit_or, or_lt, or_add_and, and_le_l, and_le_r}
use lib.ListN.{get_or}
use borrow.Author.Tests.{leb-true, leb-false, le-leb, lt-leb}
use mir.Val.{bool_byte}
use Rattle.sequence.specs.Lists.{up_to, all, any, count}
use Rattle.sequence.proofs.Lists.{all_more, any-more, count-more, count-le, length-up_to}
use Rattle.window.specs.Order.{is_mark}

-- the mark of a position is 0 or 1
abbrev pub good_mark : (marks : List ℕ) → ℕ → Bool
good_mark marks i = is_mark (get_or marks i 0)

-- a flag as a number
pub flag-le : (t : Bool) → bool_byte t ≤ 1
flag-le true = omega arith
flag-le false = omega arith

flag-cond : (t : Bool) → bool_byte t ≡ cond t 1 0
flag-cond true = refl
flag-cond false = refl

module _ (test : ℕ → Bool) (i : ℕ) where
  pub turn-all : (b : Bool) → b ≡ all test (up_to i) → (b && test i) ≡ all test (up_to (i + 1))
  turn-all b e = ap (λ (t : Bool). t && test i) e ∙ sym (all_more test i)

  pub turn-any : (b : Bool) → b ≡ any test (up_to i) → (b || test i) ≡ any test (up_to (i + 1))
  turn-any b e = ap (λ (t : Bool). t || test i) e ∙ sym (any-more test i)

  pub turn-count : (s : ℕ) → s ≡ count test (up_to i) → s + bool_byte (test i) ≡ count test (up_to (i + 1))
  turn-count s e = rw (e, flag-cond) (sym (count-more test i))

-- no more are counted than there are
pub few : (test : ℕ → Bool) (n : ℕ) → count test (up_to n) ≤ n
few test n = omega (arith, count-le test (up_to n), length-up_to n)

-- joined bit by bit, two numbers come to 0 or 1 where each is
pub join-mark : (a m : ℕ) → is_mark (bit_or a m) ≡ (is_mark a && is_mark m)
join-mark a m = go (is_mark a) (is_mark m) refl refl
  where
    sum : bit_or a m + bit_and a m ≡ a + m
    sum = or_add_and a m

    go : (s t : Bool) → is_mark a ≡ s → is_mark m ≡ t → is_mark (bit_or a m) ≡ (s && t)
    go true true p q =
        let l = leb-true a 1 p in
        let k = leb-true m 1 q in
        let h = or_lt 1 a m (omega arith) (omega arith) in
        le-leb (bit_or a m) 1 (omega arith)
    go true false p q = let h = leb-false m 1 q in lt-leb (bit_or a m) 1 (omega (arith, sum, and_le_l a m))
    go false t p q = let h = leb-false a 1 p in lt-leb (bit_or a m) 1 (omega (arith, sum, and_le_r a m))
