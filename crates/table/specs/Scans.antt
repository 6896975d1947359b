-- A test of every record below k, one of them, or how many: on a scattered table it is the same test of the rows' slots, where a free record does not count. Assumes nothing.
use Rattle.std.specs.Prelude.{◌≡◌, refl, Bool, true, false, cond, ◌&&◌, ◌||◌, List, ◌∷◌, ℕ, zero, suc, ◌+◌, ◌<◌, ◌≤◌, length, get_or}
use Rattle.std.proofs.Common.{sym, ap, subst, ◌∙◌, ⊎_elim, eq-or-lt_of_le, add-one, arith}
use Rattle.sequence.specs.Lists.{up_to, all, any, count}
use Rattle.sequence.proofs.Lists.{all_more, any-more, count-more}
use Rattle.window.specs.declared.Record.{Record}
use Rattle.window.specs.Record.{blank}
use Rattle.table.specs.View.{Row, slot_at, scatter}
use Rattle.table.specs.Apart.{Free, Apart, done, free, held, Fits, apart-scatter}
use Rattle.table.specs.Fold.{below, steps, steps-before}

-- a conjunction with what holds
and-true : (b c : Bool) → c ≡ true → (b && c) ≡ b
and-true true c e = e
and-true false c e = refl

-- a disjunction with what does not hold
or-false : (b c : Bool) → c ≡ false → (b || c) ≡ b
or-false true c e = refl
or-false false c e = e

-- a count of one more that does not hold
plus_none : (n : ℕ) (c : Bool) → c ≡ false → n + cond c 1 0 ≡ n
plus_none n c e = rw e (omega arith)

module _ (P : ℕ → Bool) where
  -- one test more of all
  abbrev both : ℕ → Bool → Bool
  both r b = b && P r

  -- one test more of any
  abbrev either : ℕ → Bool → Bool
  either r b = b || P r

  -- one test more of a count
  abbrev plus : ℕ → ℕ → ℕ
  plus r n = n + cond (P r) 1 0

  -- all tests, one after the other
  pub all-is : (n : ℕ) → all P (up_to n) ≡ below both n true
  all-is zero = refl
  all-is (suc n) = subst (λ (m : ℕ). all P (up_to m) ≡ (all P (up_to n) && P n)) (add-one n) (all_more P n) ∙ ap (both n) (all-is n)

  -- any test, one after the other
  pub any-is : (n : ℕ) → any P (up_to n) ≡ below either n false
  any-is zero = refl
  any-is (suc n) = subst (λ (m : ℕ). any P (up_to m) ≡ (any P (up_to n) || P n)) (add-one n) (any-more P n) ∙ ap (either n) (any-is n)

  -- a count, one after the other
  pub count-is : (n : ℕ) → count P (up_to n) ≡ below plus n 0
  count-is zero = refl
  count-is (suc n) = subst (λ (m : ℕ). count P (up_to m) ≡ count P (up_to n) + cond (P n) 1 0) (add-one n) (count-more P n) ∙ ap (plus n) (count-is n)

module _ {t : List Record} {k : ℕ} {hs : List Row} (P : ℕ → Bool) (f : Fits t k hs) where
  -- the test at the slot of row i
  abbrev row : ℕ → Bool
  row i = P (slot_at hs i)

  -- a record that holds no row is in the scattered table as it is in the table
  abbrev spread : Apart (scatter hs t) k 0 hs
  spread = apart-scatter f.apart

  -- a test that holds of the free records holds of all records where it holds of all rows
  pub all-rows : ((r : ℕ) → r < k → Free (scatter hs t) r → P r ≡ true) → all P (up_to k) ≡ all (λ i. P (slot_at hs i)) (up_to (length hs))
  all-rows h = all-is P k ∙ steps (both P) (λ r l g b. and-true b (P r) (h r l g)) spread true ∙ sym (all-is row (length hs))

  -- a test that holds of no free record holds of some record where it holds of some row
  pub any-rows : ((r : ℕ) → r < k → Free (scatter hs t) r → P r ≡ false) → any P (up_to k) ≡ any (λ i. P (slot_at hs i)) (up_to (length hs))
  any-rows h = any-is P k ∙ steps (either P) (λ r l g b. or-false b (P r) (h r l g)) spread false ∙ sym (any-is row (length hs))

  -- a test that holds of no free record holds of as many records as rows
  pub count-rows : ((r : ℕ) → r < k → Free (scatter hs t) r → P r ≡ false) → count P (up_to k) ≡ count (λ i. P (slot_at hs i)) (up_to (length hs))
  count-rows h = count-is P k ∙ steps (plus P) (λ r l g n. plus_none n (P r) (h r l g)) spread 0 ∙ sym (count-is row (length hs))

  -- the same of all records before that of row i
  pub all-before : ((r : ℕ) → r < k → Free (scatter hs t) r → P r ≡ true) → (i : ℕ) → i < length hs → all P (up_to (slot_at hs i)) ≡ all (λ j. P (slot_at hs j)) (up_to i)
  all-before h i l = all-is P (slot_at hs i) ∙ steps-before (both P) (λ r l g b. and-true b (P r) (h r l g)) spread true i l ∙ sym (all-is row i)

  -- the same of some record before that of row i
  pub any-before : ((r : ℕ) → r < k → Free (scatter hs t) r → P r ≡ false) → (i : ℕ) → i < length hs → any P (up_to (slot_at hs i)) ≡ any (λ j. P (slot_at hs j)) (up_to i)
  any-before h i l = any-is P (slot_at hs i) ∙ steps-before (either P) (λ r l g b. or-false b (P r) (h r l g)) spread false i l ∙ sym (any-is row i)

  -- the same of how many records before that of row i
  pub count-before : ((r : ℕ) → r < k → Free (scatter hs t) r → P r ≡ false) → (i : ℕ) → i < length hs → count P (up_to (slot_at hs i)) ≡ count (λ j. P (slot_at hs j)) (up_to i)
  count-before h i l = count-is P (slot_at hs i) ∙ steps-before (plus P) (λ r l g n. plus_none n (P r) (h r l g)) spread 0 i l ∙ sym (count-is row i)

-- a row that has slot r
pub record RowOf (hs : List Row) (r : ℕ) : Type 0 where
  pub at : ℕ
  pub inside : at < length hs
  pub is : slot_at hs at ≡ r

-- the same row with one more before it
later : {hs : List Row} {r : ℕ} (h : Row) → RowOf hs r → RowOf (h ∷ hs) r
later {hs} h o = let l : o.at < length hs = o.inside in record { at = suc o.at; inside = omega arith; is = o.is }

-- a record from q on that is not free has a row
row_from : {t : List Record} {k q : ℕ} {hs : List Row} → Apart t k q hs → (r : ℕ) → q ≤ r → r < k → (Free t r → ⊥) → RowOf hs r
row_from done r g l n = absurd (omega arith)
row_from {t} {k} {q} (free f d) r g l n = ⊎_elim (λ e. absurd (n (subst (Free t) e f))) (λ h. row_from d r h l n) (eq-or-lt_of_le g)
row_from {t} {k} {q} (held hs c v d) r g l n = ⊎_elim (λ e. record { at = 0; inside = omega arith; is = e }) (λ h. later (record { slot = q; note = c; it = v }) (row_from d r h l n)) (eq-or-lt_of_le g)

-- a record of the scattered table that is not free has a row
pub row_of : {t : List Record} {k : ℕ} {hs : List Row} → Fits t k hs → (r : ℕ) → r < k → ((get_or (scatter hs t) r blank).in_use ≡ 0 → ⊥) → RowOf hs r
row_of f r l n = row_from (apart-scatter f.apart) r (omega arith) l n
