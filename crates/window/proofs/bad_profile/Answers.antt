-- `window::bad_profile` meets its contract: L and D are small where their product is taken.
use native.Mathlib.Omega.{arith}
use Rattle.window.proofs.Product.{product_fits}
use Rattle.window.specs.Bounds.{sides_good}
use Rattle.window.proofs.bad_profile.Goals as goal

pub returns-then-l-d : goal.returns-then-l-d
returns-then-l-d c = rw c.if-l-d.true

pub overflow_mul-result : goal.overflow_mul-result
overflow_mul-result c = let b = sides_good c.args.l c.args.d c.if-l-d.false in product_fits _ _ (omega arith) (omega arith)

pub returns : goal.returns
returns c = rw c.if-l-d.false
