-- A file laid down in a lent output: the bodies, the header, and the table line by line. Assumes nothing.
use Rattle.std.proofs.Common.{◌≡◌, sym, ap, ap₂, ◌∙◌, List, [], ◌∷◌, ◌++◌, ℕ, suc, ◌+◌, ◌≤◌, ◌<◌, add-one, arith, length, get_or, drop, set, drop_of_length-le, drop-cons}
use Rattle.std.proofs.Math.Seq.{sets}
use Rattle.capture.specs.Content.{line_of, table_end}
use Rattle.capture.specs.Calls.{lines}

-- stores of one list and then of another
pub sets_append : (a l : List ℕ) (i : ℕ) (b : List ℕ) → sets l i (a ++ b) ≡ sets (sets l i a) (i + length a) b
sets_append [] l i b = ap (λ (k : ℕ). sets l k b) (omega arith)
sets_append (x ∷ a) l i b = sets_append a (set l i x) (suc i) b ∙ ap (λ (k : ℕ). sets (sets (set l i x) (suc i) a) k b) (omega arith)

-- a line more
pub lines-turn : (out ports lengths : List ℕ) (next i : ℕ) → i < length ports → i < length lengths
    → sets (sets out (table_end i) (line_of (get_or ports i 0) (get_or lengths i 0) next)) (table_end (i + 1)) (lines (next + get_or lengths i 0) (drop (i + 1) ports) (drop (i + 1) lengths))
    ≡ sets out (table_end i) (lines next (drop i ports) (drop i lengths))
lines-turn out ports lengths next i h k =
    let p = get_or ports i 0 in
    let s = get_or lengths i 0 in
    let e : table_end (i + 1) ≡ table_end i + 8 = omega arith in
    rw (e, add-one)
    (sym (ap (sets out (table_end i)) (ap₂ (lines next) (drop-cons ports i 0 h) (drop-cons lengths i 0 k))
    ∙ sets_append (line_of p s next) out (table_end i) (lines (next + s) (drop (suc i) ports) (drop (suc i) lengths))))

-- no line more
pub lines_end : (out ports lengths : List ℕ) (next i : ℕ) → length ports ≤ i → sets out (table_end i) (lines next (drop i ports) (drop i lengths)) ≡ out
lines_end out ports lengths next i h = rw (drop_of_length-le ports {i = i} h)
