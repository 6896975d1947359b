-- `window::Window::short_store` meets its contract: the products fit, and the tests are those of the definition.
use native.Mathlib.Omega.{arith}
use Rattle.window.proofs.Product.{product_fits}
use Rattle.window.proofs.Window.short_store.Goals as goal

pub overflow_mul-result : goal.overflow_mul-result
overflow_mul-result c = product_fits _ _ (omega (arith, c.requires)) (omega (arith, c.requires))

pub overflow_mul-result-2 : goal.overflow_mul-result-2
overflow_mul-result-2 c =
    let o = c in
    product_fits _ _ (omega (arith, o.requires)) (omega (arith, o.requires))
