-- What an iterator chain answers of a list, in the words of `Lists`.
use Rattle.std.specs.Prelude.{◌≡◌, ◌↔◌, ℕ, Bool, List, All, IsTrue, refl}
use Rattle.std.proofs.lemmas.Bool.Decides.{Decides-by_and, same_from_decides}
use Rattle.sequence.specs.Lists.{all}

-- what is true exactly where a test holds of each element is `all`
pub all_decided : (test : ℕ → Bool) (l : List ℕ) (b : Bool) → (IsTrue b ↔ All (λ i. IsTrue (test i)) l) → b ≡ all test l
all_decided test l b d = same_from_decides b (all test l) d (Decides-by_and test (λ i. IsTrue (test i)) (all test) (λ i. (λ e. e, λ e. e)) refl (λ _ _. refl) l)
