-- What is laid down in a lent output, the later part first and then what stands before it.
use Rattle.std.specs.Prelude.{◌≡◌, List, ◌++◌, ℕ, ◌+◌, ◌≤◌, length, take, drop}
use Rattle.std.proofs.Common.{sym, ap, ap₂, ◌∙◌, append_assoc, zero-add, arith, length-append, length-take-le, drop_at}
use Rattle.std.proofs.Math.Seq.{paste}
use Rattle.std.proofs.lemmas.List.Edits.{sets, sets-eq, length-paste}

-- p elements of y pasted behind n places, and the n elements of h put there
pub laid : (h y out : List ℕ) (n p : ℕ) → length h ≡ n → n + p ≤ length out → p ≤ length y
    → sets (paste out n y p) 0 h ≡ (h ++ take p y) ++ drop (length (h ++ take p y)) out
laid h y out n p eh ho hy =
    let l = length-paste out n y p ho hy in
    let head : length (take n out) ≡ n = length-take-le n out (omega arith) in
    let front : drop n (paste out n y p) ≡ take p y ++ drop (n + p) out = rw append_assoc (drop_at (take n out) (take p y ++ drop (n + p) out) n head) in
    let size : length (h ++ take p y) ≡ n + p = length-append h (take p y) ∙ ap₂ ◌+◌ eh (length-take-le p y hy) in
    sets-eq h (paste out n y p) 0 (omega arith)
    ∙ ap (λ (k : ℕ). h ++ drop k (paste out n y p)) (zero-add (length h) ∙ eh)
    ∙ ap (λ (t : List ℕ). h ++ t) front
    ∙ sym (append_assoc h (take p y) (drop (n + p) out))
    ∙ ap (λ (k : ℕ). h ++ take p y ++ drop k out) (sym size)
