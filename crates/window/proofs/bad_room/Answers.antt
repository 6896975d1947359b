-- `window::bad_room` meets its contract: the product fits, and the tests are those of the definition.
use native.Mathlib.Omega.{arith}
use Rattle.window.proofs.Product.{product_fits}
use Rattle.window.proofs.bad_room.Goals as goal

pub overflow_mul-result : goal.overflow_mul-result
overflow_mul-result c = product_fits _ _ (omega arith) (omega arith)
