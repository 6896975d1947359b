-- The members of a group that are present, as rows of the store: they lie in the window, so their rows lie in the media store. Assumes nothing.
use Rattle.std.proofs.Common.{◌≡◌, sym, ap, ap₂, subst, ◌∙◌, Bool, true, false, cond, not, List, [], ◌∷◌, ◌++◌, map, ℕ, zero, suc, ◌+◌, ◌*◌, ◌^◌, ◌<◌, ◌≤◌, mul-le-mul_right, suc-mul, arith, length, get_or, take, drop, bit_xor}
use Rattle.sequence.specs.Lists.{up_to, keep}
use Rattle.sequence.proofs.Lists.{map-append}
use Rattle.rtp.specs.Fec.{offset_of, na_of}
use Rattle.parity.specs.Rows.{Rows, row_of}
use Rattle.xor.specs.Xor.{zip_xor, xor_all, xor_payloads, take-zip}
use Rattle.xor.specs.Padded.{take-replicate, take-padded}
use Rattle.window.specs.declared.Window.{Window}
use Rattle.window.specs.Limits.{width, most_side}
use Rattle.window.specs.Bounds.{SetUp}
use Rattle.window.specs.declared.Look.TheVariants.{One}
use Rattle.window.specs.Group.{group, is_missing, present}
use Rattle.window.specs.Look.{look, one-missing}
use Rattle.window.specs.Plain.{Inside, shape_of, place, group_plain}
use Rattle.calls.specs.Content.{number_over, payload_over}
use Rattle.group.specs.Along.{member_at, along}
use Rattle.group.specs.Held.{Below, Held}
use Rattle.group.proofs.Along.{along-below, along-group}

below-append : (b : ℕ) (l m : List ℕ) → Below b l → Below b m → Below b (l ++ m)
below-append b [] m p q = q
below-append b (i ∷ l) m p q = (p.0, below-append b l m p.1 q)

below-keep : (b : ℕ) (test : ℕ → Bool) (l : List ℕ) → Below b l → Below b (keep test l)
below-keep b test [] p = tt
below-keep b test (i ∷ l) p = go (test i) (below-keep b test l p.1)
  where
    go : (t : Bool) → Below b (keep test l) → Below b (cond t (i ∷ keep test l) (keep test l))
    go true q = (p.0, q)
    go false q = q

below-map : (b : ℕ) (f : ℕ → ℕ) (n : ℕ) → ((j : ℕ) → j < n → f j < b) → Below b (map f (up_to n))
below-map b f zero h = tt
below-map b f (suc n) h = rw (map-append f (up_to n) (n ∷ [])) (below-append b (map f (up_to n)) (f n ∷ []) (below-map b f n (λ j l. h j (omega arith))) (h n (omega arith), tt))

pub below-get_or : (b : ℕ) (l : List ℕ) → Below b l → (i : ℕ) → i < length l → get_or l i 0 < b
below-get_or b [] p i h = absurd (omega (arith, h))
below-get_or b (j ∷ l) p zero h = p.0
below-get_or b (j ∷ l) p (suc i) h = below-get_or b l p.1 i (omega arith)

-- row i of n rows of p bytes lies within them
pub row_ends : (i n p m : ℕ) → i < n → n * p ≤ m → i * p + p ≤ m
row_ends i n p m h e = let k = rw (suc-mul i p) at (mul-le-mul_right p h) in omega arith

-- ---- a group inside a window, its step and size as the code has them
module _ (w : Window) (based : w.base < 2 ^ width) (u : SetUp w) (stream snbase : ℕ) (inside : Inside w stream snbase) (offset na : ℕ) (eo : offset ≡ offset_of stream w.l) (en : na ≡ na_of stream w.l w.d) where
  pub is_held : (marks rows : List ℕ) (m : ℕ) → m ≤ na → length rows ≡ most_side → take m rows ≡ present marks (along w.base snbase offset na) → Held (group w stream snbase) marks w.n rows m
  is_held marks rows m few long are =
      record {
        few = omega (arith, (shape_of w.l w.d stream u.profile).na-high);
        long = long;
        are = are ∙ ap (present marks) (along-group w based u stream snbase inside offset na eo en);
        below = rw are (below-keep w.n (λ i. not (is_missing marks i)) (along w.base snbase offset na) (below-map w.n (member_at w.base snbase offset) na (along-below w based u stream snbase inside offset na eo en)));
      }

-- the first k bytes of the exclusive-or of some rows
pub sum-front : (k p : ℕ) (media lengths : List ℕ) → k ≤ p → (l : List ℕ) → xor_payloads k (map (row_of p k media lengths) l) ≡ take k (xor_payloads p (map (row_of p p media lengths) l))
sum-front k p media lengths b [] = sym (take-replicate k p b)
sum-front k p media lengths b (i ∷ l) =
    ap₂ zip_xor (sym (take-padded k p (take (get_or lengths i 0) (drop (i * p) media)) b)) (sum-front k p media lengths b l)
    ∙ sym (take-zip k (row_of p p media lengths i) (xor_payloads p (map (row_of p p media lengths) l)))

-- ---- the members held of a group
module _ (group marks : List ℕ) (n : ℕ) (rows : List ℕ) (m : ℕ) (h : Held group marks n rows m) where
  pub rows-asked : (p : ℕ) (media : List ℕ) → n * p ≤ length media → Rows (take m rows) p (length media)
  rows-asked p media e i k = row_ends (get_or (take m rows) i 0) n p (length media) (below-get_or n (take m rows) h.below i k) e

  pub numbers_asked : (part : List ℕ) → n ≤ length part → (i : ℕ) → i < length (take m rows) → get_or (take m rows) i 0 < length part
  numbers_asked part e i k = let q = below-get_or n (take m rows) h.below i k in omega arith

  -- their timestamps, or their lengths
  pub numbers_held : (part : List ℕ) (number : ℕ) → bit_xor number (xor_all (map (λ i. get_or part i 0) (take m rows))) ≡ number_over part marks group number
  numbers_held part number = ap (λ (l : List ℕ). bit_xor number (xor_all (map (λ i. get_or part i 0) l))) h.are

  -- their payloads
  pub payloads-held : (p : ℕ) (media lengths z : List ℕ) → zip_xor z (xor_payloads p (map (row_of p p media lengths) (take m rows))) ≡ payload_over p media lengths marks group z
  payloads-held p media lengths z = ap (λ (l : List ℕ). zip_xor z (xor_payloads p (map (row_of p p media lengths) l))) h.are

  -- the first n bytes of their exclusive-or
  pub payloads-front : (p k : ℕ) (media lengths : List ℕ) → k ≤ p → xor_payloads k (map (row_of p k media lengths) (take m rows)) ≡ take k (xor_payloads p (map (row_of p p media lengths) (present marks group)))
  payloads-front p k media lengths b = ap (λ (l : List ℕ). xor_payloads k (map (row_of p k media lengths) l)) h.are ∙ sum-front k p media lengths b (present marks group)

-- ---- a group inside a window, by its definition
module _ (w : Window) (based : w.base < 2 ^ width) (u : SetUp w) (stream snbase : ℕ) (inside : Inside w stream snbase) where
  pub group-below : Below w.n (group w stream snbase)
  group-below = rw (group_plain w based u stream snbase inside) (below-map w.n (place w stream snbase) (na_of stream w.l w.d) (λ j k. inside.below j k))

  pub kept-below : (test : ℕ → Bool) → Below w.n (keep test (group w stream snbase))
  kept-below test = below-keep w.n test (group w stream snbase) group-below

  -- the one position that a look finds lies in the window
  pub one_below : (marks : List ℕ) (i v : ℕ) → look marks (group w stream snbase) ≡ One i v → i < w.n
  one_below marks i v e = (subst (Below w.n) (one-missing marks (group w stream snbase) v i e) (kept-below (is_missing marks))).0
