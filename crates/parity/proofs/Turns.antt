-- A turn of each loop: one timestamp more, one length more, some rows more. Assumes nothing.
use Rattle.std.specs.Prelude.{◌≡◌, refl, List, [], ◌∷◌, ◌++◌, map, ℕ, zero, suc, ◌+◌, ◌*◌, ◌/◌, ◌-◌, ◌<◌, ◌≤◌, length, get_or, set, take, drop, replicate}
use Rattle.std.proofs.Common.{sym, ap, subst, ◌∙◌, add-one, arith, take-append-drop, take-suc, take-add, length-take-le, length-drop, append_assoc, take_all, get_or-drop, get_or-take}
use Rattle.std.proofs.lemmas.List.{length-map, set_at}
use Rattle.std.proofs.Math.Nat.{mul-le-mul_right}
use Rattle.std.specs.Int.Bits.{bit_xor, xor_zero_r}
use Rattle.sequence.proofs.Lists.{map-append}
use Rattle.xor.specs.Xor.{xor_all, xor_at, xor_parts}
use Rattle.xor.specs.Laws.{xor_assoc}
use Rattle.parity.specs.Rows.{places, Rows}

-- ---- timestamps and lengths
xor_all-more : (l : List ℕ) (x : ℕ) → xor_all (l ++ (x ∷ [])) ≡ bit_xor (xor_all l) x
xor_all-more [] x = xor_zero_r x
xor_all-more (a ∷ l) x = ap (bit_xor a) (xor_all-more l x) ∙ sym (xor_assoc a (xor_all l) x)

take_more : (l : List ℕ) (i : ℕ) → i < length l → take (i + 1) l ≡ take i l ++ (get_or l i 0 ∷ [])
take_more l i h = rw add-one (take-suc l i 0 h)

pub one-number : (f : ℕ → ℕ) (rows : List ℕ) (i with : ℕ) → i < length rows
    → bit_xor (bit_xor with (xor_all (map f (take i rows)))) (f (get_or rows i 0)) ≡ bit_xor with (xor_all (map f (take (i + 1) rows)))
one-number f rows i with h =
    xor_assoc with (xor_all (map f (take i rows))) (f (get_or rows i 0))
    ∙ ap (bit_xor with) (sym (ap xor_all (ap (map f) (take_more rows i h) ∙ map-append f (take i rows) (get_or rows i 0 ∷ [])) ∙ xor_all-more (map f (take i rows)) (f (get_or rows i 0))))

-- ---- rows
parts-append : (s l m : List ℕ) (at n : ℕ) (d : List ℕ) → xor_parts s (l ++ m) at n d ≡ xor_parts s m at n (xor_parts s l at n d)
parts-append s [] m at n d = refl
parts-append s (a ∷ l) m at n d = parts-append s l m at n (xor_at d at (drop a s) n)

module _ (media : List ℕ) (at p : ℕ) (d : List ℕ) where
  both : (l m : List ℕ) → xor_parts media (places p m) at p (xor_parts media (places p l) at p d) ≡ xor_parts media (places p (l ++ m)) at p d
  both l m = sym (ap (λ (k : List ℕ). xor_parts media k at p d) (map-append (λ k. k * p) l m) ∙ parts-append media (places p l) (places p m) at p d)

  -- the first k rows, then those after them
  pub rows_then : (rows : List ℕ) (k : ℕ) → xor_parts media (places p (drop k rows)) at p (xor_parts media (places p (take k rows)) at p d) ≡ xor_parts media (places p rows) at p d
  rows_then rows k = both (take k rows) (drop k rows) ∙ ap (λ (l : List ℕ). xor_parts media (places p l) at p d) (take-append-drop k rows)

  -- k rows more
  pub rows_more : (rows : List ℕ) (i k j : ℕ) → i + k ≡ j → xor_parts media (places p (take k (drop i rows))) at p (xor_parts media (places p (take i rows)) at p d) ≡ xor_parts media (places p (take j rows)) at p d
  rows_more rows i k j e = both (take i rows) (take k (drop i rows)) ∙ ap (λ (l : List ℕ). xor_parts media (places p l) at p d) (sym (take-add i k rows) ∙ ap (λ (n : ℕ). take n rows) e)

-- where a row begins
pub place_at : (p : ℕ) (rows : List ℕ) (k : ℕ) → get_or (places p rows) k 0 ≡ get_or rows k 0 * p
place_at p [] k = omega arith
place_at p (i ∷ rows) zero = refl
place_at p (i ∷ rows) (suc k) = place_at p rows k

-- the place of one row more, in an array of n
pub place-more : (p : ℕ) (rows : List ℕ) (n i : ℕ) → i < n → n ≤ length rows
    → set (places p (take i rows) ++ replicate (n - i) 0) i (get_or rows i 0 * p) ≡ places p (take (i + 1) rows) ++ replicate (n - (i + 1)) 0
place-more p rows n i h hn =
    let e : n - i ≡ suc (n - (i + 1)) = omega arith in
    let front : List ℕ = places p (take i rows) in
    let size : length front ≡ i = length-map (take i rows) (λ k. k * p) ∙ length-take-le i rows (omega arith) in
    ap (λ (k : ℕ). set (front ++ replicate k 0) i (get_or rows i 0 * p)) e
    ∙ set_at front 0 (replicate (n - (i + 1)) 0) (get_or rows i 0 * p) i size
    ∙ sym (append_assoc front (get_or rows i 0 * p ∷ []) (replicate (n - (i + 1)) 0))
    ∙ ap (λ (l : List ℕ). l ++ replicate (n - (i + 1)) 0) (sym (ap (places p) (take_more rows i (omega arith)) ∙ map-append (λ k. k * p) (take i rows) (get_or rows i 0 ∷ [])))

-- a place and the p bytes from it on
pub place-ends : (p m : ℕ) (rows : List ℕ) (n k : ℕ) (places' : List ℕ) → places' ≡ places p (take n rows) → Rows rows p m → k < n → n ≤ length rows → get_or places' k 0 + p ≤ m
place-ends p m rows n k places' e r h hn = rw (e, place_at p (take n rows) k, get_or-take n rows k 0 h) (r k (omega arith))

-- ---- the rows from k on
pub rest_is : (rows : List ℕ) (k : ℕ) → take (length rows - k) (drop k rows) ≡ drop k rows
rest_is rows k = take_all (length rows - k) (drop k rows) (simp length-drop (omega arith))

pub rows_rest : (p m : ℕ) (rows : List ℕ) (k : ℕ) → Rows rows p m → Rows (take (length rows - k) (drop k rows)) p m
rows_rest p m rows k r i h =
    let l = length-drop k rows in
    let q : i < length (drop k rows) = subst (λ (x : List ℕ). i < length x) (rest_is rows k) h in
    rw (rest_is rows k, get_or-drop k rows i 0) (r (k + i) (omega arith))

-- group g of k ends within n
pub group_fits : (n k g : ℕ) → 0 < k → g < n / k → g * k + k ≤ n
group_fits n k g h l = let m : (g + 1) * k ≤ n / k * k = mul-le-mul_right k (omega arith) in omega (arith, m)

-- the rows from k on, after the first k
pub after : (media d rows s q : List ℕ) (p n k : ℕ) → n ≡ p → s ≡ xor_parts media (places p (take k rows)) 0 p d → q ≡ xor_parts media (places n (take (length rows - k) (drop k rows))) 0 n s
    → q ≡ xor_parts media (places p rows) 0 p d
after media d rows s q p n k e es eq =
    eq ∙ ap (λ (j : ℕ). xor_parts media (places j (take (length rows - k) (drop k rows))) 0 j s) e
    ∙ rw (rest_is rows k, es) (rows_then media 0 p d rows k)
