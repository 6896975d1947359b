-- `xor::same` meets its contract. Assumes nothing.
use Rattle.std.proofs.Common.{refl, ◌∙◌, eqb}
use Rattle.xor.specs.Same.{same_from_eq}
use Rattle.xor.proofs.same.Goals as goal

pub returns : goal.returns
returns c = let a = c.args in c.eq.ensures ∙ same_from_eq eqb (λ p q. refl) a.a.now a.b.now
