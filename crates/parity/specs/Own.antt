-- Rows at their own lengths, xored in one after another, are the exclusive-or of their payloads, xored in once. Assumes nothing.
use Rattle.std.specs.Prelude.{◌≡◌, refl, List, [], ◌∷◌, ◌++◌, map, ℕ, zero, suc, ◌+◌, ◌*◌, ◌<◌, ◌≤◌, length, get_or, take, drop, replicate}
use Rattle.std.proofs.Common.{sym, ap, ◌∙◌, add-one, arith, length-drop, take-suc}
use Rattle.std.proofs.lemmas.List.{length-replicate}
use Rattle.std.proofs.Math.Seq.{paste}
use Rattle.std.proofs.lemmas.List.Edits.{length-paste}
use Rattle.xor.specs.Xor.{zip_xor, xor_at, xor_parts, xor_payloads, padded, length-zip, le-zip, paste-xor}
use Rattle.xor.specs.Laws.{zip_assoc, zip-zero}
use Rattle.xor.specs.Padded.{length-padded, xor-padded, take-zeros}
use Rattle.parity.specs.Rows.{places, row_of, xor_lists}
use Rattle.parity.specs.Sum.{pasted, paste-self}

map_snoc : (f : ℕ → List ℕ) (l : List ℕ) (i : ℕ) → map f (l ++ (i ∷ [])) ≡ map f l ++ (f i ∷ [])
map_snoc f [] i = refl
map_snoc f (j ∷ l) i = ap (λ r. f j ∷ r) (map_snoc f l i)

lists_snoc : (ls : List (List ℕ)) (x : List ℕ) (at n : ℕ) (d : List ℕ) → xor_lists (ls ++ (x ∷ [])) at n d ≡ xor_at (xor_lists ls at n d) at x n
lists_snoc [] x at n d = refl
lists_snoc (y ∷ ls) x at n d = lists_snoc ls x at n (xor_at d at y n)

-- one row more
pub lists_more : (f : ℕ → List ℕ) (rows : List ℕ) (i at n : ℕ) (d : List ℕ) → i < length rows
    → xor_at (xor_lists (map f (take i rows)) at n d) at (f (get_or rows i 0)) n ≡ xor_lists (map f (take (i + 1) rows)) at n d
lists_more f rows i at n d h =
    sym
    (ap (λ (k : ℕ). xor_lists (map f (take k rows)) at n d) (add-one i)
    ∙ ap (λ (l : List ℕ). xor_lists (map f l) at n d) (take-suc rows i 0 h)
    ∙ ap (λ (l : List (List ℕ)). xor_lists l at n d) (map_snoc f (take i rows) (get_or rows i 0))
    ∙ lists_snoc (map f (take i rows)) (f (get_or rows i 0)) at n d)

-- a row has as many bytes as it is given zeros for
pub length_own : (p most : ℕ) (media lengths : List ℕ) (i : ℕ) → length (row_of p most media lengths i) ≡ most
length_own p most media lengths i = length-padded most (take (get_or lengths i 0) (drop (i * p) media))

module _ (n : ℕ) (f : ℕ → List ℕ) (each : (i : ℕ) → length (f i) ≡ n) where
  -- the exclusive-or of lists of n elements has n
  pub length-sum : (rows : List ℕ) → length (xor_payloads n (map f rows)) ≡ n
  length-sum [] = length-replicate n 0
  length-sum (i ∷ rows) = length-zip (f i) (xor_payloads n (map f rows)) (each i ∙ sym (length-sum rows)) ∙ each i

  module _ (at : ℕ) (d : List ℕ) (room : at + n ≤ length d) where
    -- xored into what was pasted
    lists_sum : (rows z : List ℕ) → n ≤ length z → xor_lists (map f rows) at n (paste d at z n) ≡ paste d at (zip_xor z (xor_payloads n (map f rows))) n
    lists_sum [] z h = sym (pasted n at d (zip_xor z (replicate n 0)) z (take-zeros n z h))
    lists_sum (i ∷ rows) z h =
        ap (xor_lists (map f rows) at n) (paste-xor d at z (f i) n room h)
        ∙ lists_sum rows (zip_xor z (f i)) (le-zip n z (f i) h (omega (arith, each i)))
        ∙ ap (λ (l : List ℕ). paste d at l n) (zip_assoc z (f i) (xor_payloads n (map f rows)))

    -- xored into what stood there
    pub lists_over : (rows : List ℕ) → xor_lists (map f rows) at n d ≡ paste d at (zip_xor (drop at d) (xor_payloads n (map f rows))) n
    lists_over rows = ap (xor_lists (map f rows) at n) (paste-self n [] at d room) ∙ lists_sum rows (drop at d) (simp length-drop (omega arith))

    -- xored into zeros
    pub lists_laid : (rows : List ℕ) → xor_lists (map f rows) at n (paste d at (replicate n 0) n) ≡ paste d at (xor_payloads n (map f rows)) n
    lists_laid rows =
        let x : List ℕ = xor_payloads n (map f rows) in
        lists_sum rows (replicate n 0) (omega (arith, length-replicate {A = ℕ} n 0))
        ∙ ap (λ (l : List ℕ). paste d at l n) (ap (λ (k : ℕ). zip_xor (replicate k 0) x) (sym (length-sum rows)) ∙ zip-zero x)

-- ---- rows of p bytes each

-- each row is p bytes long and ends within the media store
abbrev pub Full : (p : ℕ) → (media lengths : List ℕ) → List ℕ → Type 0
Full p media lengths [] = Unit
Full p media lengths (i ∷ rows) = (get_or lengths i 0 ≡ p) × (i * p + p ≤ length media) × Full p media lengths rows

pub full_of : (p : ℕ) (media lengths : List ℕ) (n : ℕ) (rows : List ℕ) → n ≤ length rows
    → ((i : ℕ) → i < n → (get_or lengths (get_or rows i 0) 0 ≡ p) × (get_or rows i 0 * p + p ≤ length media)) → Full p media lengths (take n rows)
full_of p media lengths zero rows l h = tt
full_of p media lengths (suc n) [] l h = absurd (omega (arith, l))
full_of p media lengths (suc n) (i ∷ rows) l h =
    let z = h 0 (omega arith) in
    (z.0, z.1, full_of p media lengths n rows (omega arith) (λ j k. h (suc j) (omega arith)))

module _ (p : ℕ) (media lengths : List ℕ) (at : ℕ) where
  -- their rows xored in as they lie
  pub full-parts : (rows d : List ℕ) → at + p ≤ length d → Full p media lengths rows
      → xor_parts media (places p rows) at p d ≡ xor_lists (map (row_of p p media lengths) rows) at p d
  full-parts [] d room f = refl
  full-parts (i ∷ rows) d room f =
      let s : List ℕ = drop (i * p) media in
      let long : p ≤ length s = simp length-drop (omega (arith, f.1)) in
      let one : xor_at d at s p ≡ xor_at d at (row_of p p media lengths i) p =
      xor-padded d at s p p (omega arith) room long ∙ ap (λ (k : ℕ). xor_at d at (padded p (take k s)) p) (sym f.0) in
      let kept : length (xor_at d at s p) ≡ length d = length-paste d at (zip_xor (drop at d) s) p room (le-zip p (drop at d) s (simp length-drop (omega arith)) long) in
      full-parts rows (xor_at d at s p) (omega (arith, kept)) f.2 ∙ ap (xor_lists (map (row_of p p media lengths) rows) at p) one
