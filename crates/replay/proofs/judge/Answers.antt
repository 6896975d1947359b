-- A header whose set-up no refusal applies to has small numbers.
use Rattle.std.proofs.Common.{arith}
use Rattle.replay.proofs.SetUp.{Small, small, small_product}
use Rattle.replay.proofs.judge.Goals as goal

pub overflow_add-h : goal.overflow_add-h
overflow_add-h c =
    let s : Small c.args.h = small c.args.h _ c.window_of.ensures c.in_ok-check_set_up.ensures in
    omega (arith, s.n-high, s.k-high)

pub overflow_mul-h : goal.overflow_mul-h
overflow_mul-h c =
    omega (arith, small_product c.args.h (small c.args.h _ c.window_of.ensures c.in_ok-check_set_up.ensures))
