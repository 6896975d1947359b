-- The lengths of a file's bodies, together.
use Rattle.std.proofs.Common.{◌≡◌, ℕ, ◌+◌, List, [], ◌∷◌, sum, ap, refl, ◌∙◌}
use Rattle.std.proofs.lemmas.List.Sums.{sum_by-cons}
use Rattle.capture.specs.Calls.{total}

-- all lengths together are their sum
pub total-sum : (l : List ℕ) → sum l ≡ total l
total-sum [] = refl
total-sum (n ∷ l) = sum_by-cons (λ (k : ℕ). k) n l ∙ ap (λ (t : ℕ). n + t) (total-sum l)
