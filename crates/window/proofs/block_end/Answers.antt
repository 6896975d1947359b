-- `window::block_end` meets its contract. Assumes nothing.
use native.Mathlib.Omega.{arith}
use Rattle.window.proofs.block_end.Goals as goal

pub returns-then-n-at-lt128 : goal.returns-then-n-at-lt128
returns-then-n-at-lt128 c =
    let the-pre = c.requires in
    let the-if1 = c.if-n-at-lt128 in
    (omega (arith, the-pre), omega arith, omega (arith, the-if1.true))

pub returns : goal.returns
returns c =
    let the-if1 = c.if-n-at-lt128 in
    (omega arith, omega (arith, the-if1.false), omega arith)
