-- The test of order over a table is that over the rows of a hand that fits it. Assumes nothing.
use mathlib.Core.Path.{◌≡◌, refl, sym, ap, ◌∙◌}
use mathlib.Core.Bool.{Bool, true, false, cond, not, ◌&&◌, ◌||◌, and_assoc}
use mathlib.Core.List.{List}
use Prim.Native.Nat.{ℕ, ◌<◌}
use native.Mathlib.Omega.{arith}
use lib.Dec.{eqb, leb, ltb}
use lib.ListN.{length}
use borrow.Author.Tests.{eqb-true, eqb-false, ne_eqb, le-leb, lt-leb, lt-ltb}
use Rattle.sequence.specs.Lists.{up_to, all, any, count}
use Rattle.rtp.specs.Length.{good_length}
use Rattle.window.specs.declared.Record.{Record}
use Rattle.window.specs.declared.Window.{Window}
use Rattle.window.specs.Limits.{least_missing}
use Rattle.window.specs.Store.{Store, stored, record_at}
use Rattle.window.specs.Order.{is_mark, used, is_in_use, same_group, shape_good, is_first, waiting, record_good, records_good}
use Rattle.table.specs.declared.Row.{Row}
use Rattle.table.specs.View.{slot_at, it_at, scatter}
use Rattle.table.specs.Apart.{Fits, Alike, within, get-scatter, alike-it, alike-slot}
use Rattle.table.specs.Scans.{all-rows, any-before, count-rows}
use Rattle.order.specs.Rows.{names, missing_of, row_good}
use Rattle.order.proofs.Agree.{all_same, any_same, count_same}

-- a row is free or good, by its record, its slot, and whether a row before it names its group
abbrev pub row_by : Window → (marks : List ℕ) → Record → ℕ → Bool → Bool
row_by w marks v s b = cond (eqb v.in_use 0) true (eqb v.in_use 1 && (ltb s w.k && (shape_good w v.stream v.snbase && (good_length w.p v.payload_length && (not b && leb least_missing (missing_of w marks v))))))

by_same : (w : Window) (marks : List ℕ) {v u : Record} {s r : ℕ} {b c : Bool} → v ≡ u → s ≡ r → b ≡ c → row_by w marks v s b ≡ row_by w marks u r c
by_same w marks {v} {u} {s} {r} {b} {c} e f g = ap (λ (x : Record). row_by w marks x s b) e ∙ ap (λ (x : ℕ). row_by w marks u x b) f ∙ ap (λ (x : Bool). row_by w marks u r x) g

-- a record in use that names the group of another
abbrev naming : Record → Record → Bool
naming v u = used v && same_group v u

naming-same : {v x u y : Record} → v ≡ x → u ≡ y → naming v u ≡ naming x y
naming-same {v} {x} {u} {y} e f = ap (λ (z : Record). naming z u) e ∙ ap (λ (z : Record). naming x z) f

-- ---- hands that are alike

module _ {hs gs : List Row} (a : Alike hs gs) where
  -- name the same groups
  names-alike : {v u : Record} → v ≡ u → (i : ℕ) → any (names hs v) (up_to i) ≡ any (names gs u) (up_to i)
  names-alike {v} {u} e i = any_same (names hs v) (names gs u) i (λ j l. naming-same (alike-it a j) e)

  -- have the same good rows
  pub good-alike : (w : Window) (marks : List ℕ) (i : ℕ) → row_good w marks hs i ≡ row_good w marks gs i
  good-alike w marks i = by_same w marks (alike-it a i) (alike-slot a i) (names-alike (alike-it a i) i)

-- ---- a hand that fits a table

and_none : (a b : Bool) → a ≡ false → (a && b) ≡ false
and_none a b e = rw e

-- a free record is not used
none-used : (m : ℕ) → m ≡ 0 → eqb m 1 ≡ false
none-used m e = ne_eqb m 1 (λ o. omega arith)

-- a free record is good
free-good : (m : ℕ) (x : Bool) → m ≡ 0 → (leb m 1 && (not (eqb m 1) || x)) ≡ true
free-good m x e = rw (le-leb m 1 (omega arith), none-used m e)

-- the test of a record by its mark is that of a row
by_mark : (m : ℕ) (below shape size alone waits : Bool) → below ≡ true
    → (leb m 1 && (not (eqb m 1) || (shape && size && alone && waits))) ≡ cond (eqb m 0) true (eqb m 1 && (below && (shape && (size && (alone && waits)))))
by_mark m below shape size alone waits e = go (eqb m 0) refl (eqb m 1) refl where
  go : (z : Bool) → eqb m 0 ≡ z → (o : Bool) → eqb m 1 ≡ o → (leb m 1 && (not o || (shape && size && alone && waits))) ≡ cond z true (o && (below && (shape && (size && (alone && waits)))))
  go true ez o eo = let h = eqb-true m 0 ez in rw (le-leb m 1 (omega arith), sym eo ∙ none-used m h)
  go false ez true eo = let h = eqb-true m 1 eo in rw (le-leb m 1 (omega arith), e) (and_assoc (shape && size) alone waits ∙ and_assoc shape size (alone && waits))
  go false ez false eo = let h = eqb-false m 0 ez in let k = eqb-false m 1 eo in rw (lt-leb m 1 (omega arith))

module _ (w : Window) (media timestamps lengths marks parity : List ℕ) {t : List Record} {hs : List Row} (f : Fits t w.k hs) where
  abbrev S : Store
  S = stored media timestamps lengths marks parity (scatter hs t)

  -- the record at the slot of a row is the row's
  row_is : (i : ℕ) → i < length hs → record_at S (slot_at hs i) ≡ it_at hs i
  row_is i l = get-scatter f.apart f.enough i l

  -- whether the record at the slot of a row is the first of its group is seen in the rows before
  first-is : (i : ℕ) → i < length hs → is_first w S (slot_at hs i) ≡ not (any (names hs (it_at hs i)) (up_to i))
  first-is i l =
      let v = record_at S (slot_at hs i) in
      ap not
      (any-before (λ (q : ℕ). naming (record_at S q) v) f (λ r m g. and_none (used (record_at S r)) (same_group (record_at S r) v) (none-used _ g)) i l
      ∙ any_same (λ (j : ℕ). naming (record_at S (slot_at hs j)) v) (names hs (it_at hs i)) i (λ j m. naming-same (row_is j (omega arith)) (row_is i l)))

  -- the test of a record
  abbrev test : ℕ → Bool
  test r = is_mark (record_at S r).in_use && record_good w S r

  -- at the slot of a row it is the test of the row
  test-row : (i : ℕ) → i < length hs → test (slot_at hs i) ≡ row_good w marks hs i
  test-row i l =
      let v = record_at S (slot_at hs i) in
      by_mark v.in_use (ltb (slot_at hs i) w.k) (shape_good w v.stream v.snbase) (good_length w.p v.payload_length) (is_first w S (slot_at hs i)) (waiting w S (slot_at hs i)) (lt-ltb _ _ (within f.apart i l))
      ∙ ap (λ (b : Bool). cond (eqb v.in_use 0) true (eqb v.in_use 1 && (ltb (slot_at hs i) w.k && (shape_good w v.stream v.snbase && (good_length w.p v.payload_length && (b && leb least_missing (missing_of w marks v))))))) (first-is i l)
      ∙ ap (λ (u : Record). row_by w marks u (slot_at hs i) (any (names hs (it_at hs i)) (up_to i))) (row_is i l)

  -- the records are good where the rows are
  pub records_good_lem : records_good w S ≡ all (row_good w marks hs) (up_to (length hs))
  records_good_lem =
      all-rows test f (λ r l g. free-good (record_at S r).in_use _ g)
      ∙ all_same (λ (i : ℕ). test (slot_at hs i)) (row_good w marks hs) (length hs) test-row

  -- as many records are in use as rows
  pub used_rows_lem : count (is_in_use w S) (up_to w.k) ≡ count (λ i. used (it_at hs i)) (up_to (length hs))
  used_rows_lem =
      count-rows (is_in_use w S) f (λ r l g. none-used _ g)
      ∙ count_same (λ (i : ℕ). is_in_use w S (slot_at hs i)) (λ (i : ℕ). used (it_at hs i)) (length hs) (λ i l. ap used (row_is i l))
