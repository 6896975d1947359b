-- A fold over the first k records whose step does nothing at a free record is the fold over the hand's rows, each at its slot. Assumes nothing.
use Rattle.std.specs.Prelude.{◌≡◌, refl, List, ◌∷◌, ℕ, zero, suc, ◌<◌, ◌≤◌, length, get_or}
use Rattle.std.proofs.Common.{sym, ap, ◌∙◌, arith, not-suc-le-zero, le_of_suc-le-suc}
use Rattle.window.specs.declared.Record.{Record}
use Rattle.window.specs.Record.{blank}
use Rattle.table.specs.View.{Row, slot_at, it_at, scatter}
use Rattle.table.specs.Apart.{Free, Apart, done, free, held, ends, get-scatter, apart-scatter}

-- the steps 0 to n - 1, in this order
abbrev pub below : {X : Type 0} → (ℕ → X → X) → ℕ → X → X
below step zero x = x
below step (suc r) x = step r (below step r x)

-- the first step of some, and the others after it
first_step : {X : Type 0} (f : ℕ → X → X) (n : ℕ) (x : X) → below f (suc n) x ≡ below (λ i. f (suc i)) n (f 0 x)
first_step f zero x = refl
first_step f (suc n) x = ap (f (suc n)) (first_step f n x)

-- the steps at the slots of the hand, row by row
abbrev pub rows : {X : Type 0} → (ℕ → X → X) → List Row → ℕ → X → X
rows step hs = below (λ i. step (slot_at hs i))

module _ {X : Type 0} (table : X → List Record) (step : ℕ → X → X) (still : (r : ℕ) (x : X) → Free (table x) r → step r x ≡ x) (keeps : (r q : ℕ) (x : X) → Free (table x) q → Free (table (step r x)) q) where
  -- a free record is free after some steps
  kept : (n q : ℕ) (x : X) → Free (table x) q → Free (table (below step n x)) q
  kept zero q x f = f
  kept (suc n) q x f = keeps n q (below step n x) (kept n q x f)

  -- the steps from q on are those at the slots from q on
  through : {k : ℕ} (x : X) {q : ℕ} {hs : List Row} → Apart (table x) k q hs → below step k x ≡ rows step hs (length hs) (below step q x)
  through x done = refl
  through {k} x {q} {hs} (free f d) = through x d ∙ ap (rows step hs (length hs)) (still q (below step q x) (kept q q x f))
  through {k} x {q} (held hs c v d) = through x d ∙ sym (first_step (λ i. step (slot_at (record { slot = q; note = c; it = v } ∷ hs) i)) (length hs) (below step q x))

  -- the steps at all records are those at the rows
  pub fold : {k : ℕ} (x : X) {hs : List Row} → Apart (table x) k 0 hs → below step k x ≡ rows step hs (length hs) x
  fold x d = through x d

-- a scan of the scattered table, which changes no record, is the same scan of the rows
module _ {X : Type 0} (see : ℕ → Record → X → X) (still : (r : ℕ) (v : Record) (x : X) → v.in_use ≡ 0 → see r v x ≡ x) where
  -- a step of the scan
  abbrev over : List Record → ℕ → X → X
  over rs r = see r (get_or rs r blank)

  -- what is read at the slots is read of the rows
  seen : {t : List Record} {k : ℕ} (hs : List Row) (x : X) → Apart t k 0 hs → k ≤ length t → (i : ℕ) → i ≤ length hs → rows (over (scatter hs t)) hs i x ≡ below (λ i. see (slot_at hs i) (it_at hs i)) i x
  seen hs x d n zero l = refl
  seen {t} {k} hs x d n (suc i) l =
      ap (λ (v : Record). see (slot_at hs i) v (rows (over (scatter hs t)) hs i x)) (get-scatter d n i (omega arith)) ∙ ap (see (slot_at hs i) (it_at hs i)) (seen hs x d n i (omega arith))

  -- the scan of all records is that of the rows
  pub scan : {t : List Record} {k : ℕ} (hs : List Row) (x : X) → Apart t k 0 hs → k ≤ length t → below (λ r. see r (get_or (scatter hs t) r blank)) k x ≡ below (λ i. see (slot_at hs i) (it_at hs i)) (length hs) x
  scan {t} hs x d n = fold (λ (_ : X). scatter hs t) (over (scatter hs t)) (λ r y. still r (get_or (scatter hs t) r blank) y) (λ r q y f. f) x (apart-scatter d) ∙ seen hs x d n (length hs) (omega arith)

-- steps that read no table, and do nothing at the free records of one below k
module _ {X : Type 0} (step : ℕ → X → X) {t : List Record} {k : ℕ} (still : (r : ℕ) → r < k → Free t r → (x : X) → step r x ≡ x) where
  -- the steps at all records are those at the rows
  pub steps : {q : ℕ} {hs : List Row} → Apart t k q hs → (x : X) → below step k x ≡ rows step hs (length hs) (below step q x)
  steps done x = refl
  steps {q} {hs} (free f d) x = steps d x ∙ ap (rows step hs (length hs)) (still q (omega (arith, ends d)) f (below step q x))
  steps {q} (held hs c v d) x = steps d x ∙ sym (first_step (λ i. step (slot_at (record { slot = q; note = c; it = v } ∷ hs) i)) (length hs) (below step q x))

  -- the steps at the records before a row's are those at the rows before it
  pub steps-before : {q : ℕ} {hs : List Row} → Apart t k q hs → (x : X) (i : ℕ) → i < length hs → below step (slot_at hs i) x ≡ rows step hs i (below step q x)
  steps-before done x i l = absurd (not-suc-le-zero l)
  steps-before {q} {hs} (free f d) x i l = steps-before d x i l ∙ ap (rows step hs i) (still q (omega (arith, ends d)) f (below step q x))
  steps-before (held hs c v d) x zero l = refl
  steps-before {q} (held hs c v d) x (suc i) l = steps-before d x i (le_of_suc-le-suc l) ∙ sym (first_step (λ j. step (slot_at (record { slot = q; note = c; it = v } ∷ hs) j)) i (below step q x))
