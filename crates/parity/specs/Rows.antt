-- Members of a group as rows of the media store, and their exclusive-or.
use Rattle.std.specs.Prelude.{List, [], ◌∷◌, map, ℕ, ◌+◌, ◌*◌, ◌<◌, ◌≤◌, length, get_or, take, drop}
use Rattle.xor.specs.Xor.{xor_at, padded}

-- where the rows of some positions begin, each p bytes long
abbrev pub places : (p : ℕ) → List ℕ → List ℕ
places p rows = map (λ i. i * p) rows

-- the payload of a row at its own length, with zeros up to a number of bytes: what stands past the length counts as zero
abbrev pub row_of : (p most : ℕ) → (media lengths : List ℕ) → ℕ → List ℕ
row_of p most media lengths i = padded most (take (get_or lengths i 0) (drop (i * p) media))

-- the list d, with each of some lists of n elements xored in from index at, one after another
abbrev pub xor_lists : List (List ℕ) → (at n : ℕ) → List ℕ → List ℕ
xor_lists [] at n d = d
xor_lists (x ∷ lists) at n d = xor_lists lists at n (xor_at d at x n)

-- each row, p bytes long, ends within m bytes
abbrev pub Rows : List ℕ → (p m : ℕ) → Type 0
Rows rows p m = (i : ℕ) → i < length rows → get_or rows i 0 * p + p ≤ m
