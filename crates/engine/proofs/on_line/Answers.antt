-- `engine::on_line` meets its contract: outside the range nothing, inside it by the rest of the division. Assumes nothing.
use Prim.Native.Nat.{◌+◌, ◌*◌}
use lib.Dec.{leb, ltb}
use borrow.Author.Tests.{ltb-false, leb-false}
use Rattle.sequence.proofs.Lists.{or_split}
use Rattle.sequence.proofs.Line.{beside, on_line}
use Rattle.window.proofs.Product.{product_fits, product_le}
use native.Mathlib.Omega.{arith}
use Rattle.engine.proofs.on_line.Goals as goal

pub overflow_mul-na : goal.overflow_mul-na
overflow_mul-na c = product_fits _ _ (omega arith) (omega arith)

pub overflow_add-at : goal.overflow_add-at
overflow_add-at c =
    let the-args = c.args in
    let m = product_le the-args.na the-args.offset (omega arith) (omega arith) in omega arith

pub returns-then-i-at : goal.returns-then-i-at
returns-then-i-at c =
    let the-args = c.args in
    let the-pre = c.requires in
    let the-if1 = c.if-i-at in
    beside the-args.at the-args.offset the-args.i the-args.na the-pre.0 the-if1.true

pub overflow_sub-result : goal.overflow_sub-result
overflow_sub-result c =
    let the-args = c.args in
    let the-if1 = c.if-i-at in
    let h = ltb-false the-args.i the-args.at (or_split (ltb the-args.i the-args.at) (leb (the-args.at + the-args.na * the-args.offset) the-args.i) the-if1.false).0 in omega arith

pub returns : goal.returns
returns c =
    let the-args = c.args in
    let the-if1 = c.if-i-at in
    let the-pre = c.requires in
    let s = or_split (ltb the-args.i the-args.at) (leb (the-args.at + the-args.na * the-args.offset) the-args.i) the-if1.false in
    on_line the-args.at the-args.offset the-args.i the-args.na the-pre.0 (ltb-false the-args.i the-args.at s.0) (leb-false (the-args.at + the-args.na * the-args.offset) the-args.i s.1)
