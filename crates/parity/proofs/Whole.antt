-- What is pasted over the whole of a list is all that is left. Assumes nothing.
use Rattle.std.specs.Prelude.{◌≡◌, List, ◌++◌, map, ℕ, ◌<◌, length, get_or, take, drop, replicate}
use Rattle.std.proofs.Common.{sym, ap, subst, ◌∙◌, append-nil, zero-add, arith, take_all, drop_of_length-le}
use Rattle.std.proofs.lemmas.List.{length-replicate}
use Rattle.std.proofs.Math.Seq.{paste}
use Rattle.xor.specs.Xor.{zip_xor, xor_parts, xor_payloads, length-zip}
use Rattle.parity.specs.Rows.{places, Rows, row_of, xor_lists}
use Rattle.parity.specs.Own.{Full, length_own, length-sum, lists_over, lists_laid, full_of, full-parts}

whole : (d z : List ℕ) (n : ℕ) → length d ≡ n → length z ≡ n → paste d 0 z n ≡ z
whole d z n ed ez =
    ap (λ (k : ℕ). take n z ++ drop k d) (zero-add n) ∙ ap (λ (r : List ℕ). take n z ++ r) (drop_of_length-le d {i = n} (omega arith)) ∙ append-nil (take n z) ∙ take_all n z (omega arith)

module _ (p n : ℕ) (media lengths rows : List ℕ) where
  abbrev sum : List ℕ
  sum = xor_payloads n (map (row_of p n media lengths) rows)

  -- xored into what stood there
  pub over-whole : (d : List ℕ) → length d ≡ n → xor_lists (map (row_of p n media lengths) rows) 0 n d ≡ zip_xor d sum
  over-whole d e =
      let long : length sum ≡ n = length-sum n (row_of p n media lengths) (length_own p n media lengths) rows in
      lists_over n (row_of p n media lengths) (length_own p n media lengths) 0 d (omega arith) rows
      ∙ whole d (zip_xor d sum) n e (length-zip d sum (e ∙ sym long) ∙ e)

  -- xored into zeros
  pub laid-whole : xor_lists (map (row_of p n media lengths) rows) 0 n (replicate n 0) ≡ sum
  laid-whole =
      let z : List ℕ = replicate n 0 in
      let e : length z ≡ n = length-replicate n 0 in
      ap (xor_lists (map (row_of p n media lengths) rows) 0 n) (sym (whole z z n e e))
      ∙ lists_laid n (row_of p n media lengths) (length_own p n media lengths) 0 z (omega arith) rows
      ∙ whole z sum n e (length-sum n (row_of p n media lengths) (length_own p n media lengths) rows)

-- rows of p bytes each, as they lie
pub as-they-lie : (p : ℕ) (media lengths rows d : List ℕ) → length d ≡ p → Rows rows p (length media) → ((i : ℕ) → i < length rows → get_or lengths (get_or rows i 0) 0 ≡ p)
    → xor_parts media (places p rows) 0 p d ≡ xor_lists (map (row_of p p media lengths) rows) 0 p d
as-they-lie p media lengths rows d e r each =
    let full : Full p media lengths rows = subst (Full p media lengths) (take_all (length rows) rows (omega arith)) (full_of p media lengths (length rows) rows (omega arith) (λ i h. (each i h, r i h))) in
    full-parts p media lengths 0 rows d (omega arith) full
