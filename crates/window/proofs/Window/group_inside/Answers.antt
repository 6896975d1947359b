-- `window::Window::group_inside` meets its contract: the last member decides.
use mathlib.Core.Path.{sym}
use Prim.Native.Nat.{◌-◌}
use native.Mathlib.Omega.{arith}
use Rattle.window.specs.Plain.{shape_of, inside-last}
use Rattle.window.proofs.Product.{product_fits, product_le}
use Rattle.window.proofs.Window.group_inside.Goals as goal

pub overflow_sub-result : goal.overflow_sub-result
overflow_sub-result c =
    let o = c in
    let a = o.args in
    let s = shape_of a.self.l a.self.d a.stream o.requires.profile in
    omega (arith, c.na_of-na.ensures)

pub overflow_mul-result : goal.overflow_mul-result
overflow_mul-result c =
    let o = c in
    let a = o.args in
    let s = shape_of a.self.l a.self.d a.stream o.requires.profile in
    product_fits _ _ (omega (arith, c.na_of-na.ensures)) (omega (arith, c.offset_of-offset.ensures))

pub overflow_add-result : goal.overflow_add-result
overflow_add-result c =
    let o = c in
    let a = o.args in
    let s = shape_of a.self.l a.self.d a.stream o.requires.profile in
    let m = product_le (c.na_of-na.result - 1) c.offset_of-offset.result (omega (arith, c.na_of-na.ensures)) (omega (arith, c.offset_of-offset.ensures)) in
    omega (arith, c.position.type_inv)

pub returns : goal.returns
returns c =
    let o = c in
    let a = o.args in
    rw (c.position.ensures, c.na_of-na.ensures, c.offset_of-offset.ensures) (sym (inside-last a.self (omega (arith, o.well_formed)) o.requires a.stream a.snbase))
