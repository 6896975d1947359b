-- What refusal 5 leaves known: the store is in order.
use Rattle.std.specs.Prelude.{◌≡◌, refl, Bool, true, false, ◌&&◌, ◌||◌, ℕ, ◌<◌, ◌≤◌, eqb, leb, length, get_or}
use Rattle.std.proofs.Math.Path.{ap}
use Rattle.std.proofs.Math.Bool.{not}
use borrow.Author.Tests.{leb-true, le-leb, eqb-true, eq-eqb, not-true, not-false}
use Rattle.sequence.specs.Lists.{up_to, any, count}
use Rattle.sequence.proofs.Lists.{and_split, all_true, true-all, any_false, false-any}
use Rattle.rtp.specs.Faults.{no_row}
use Rattle.rtp.specs.Length.{good_length}
use Rattle.window.specs.declared.Window.{Window}
use Rattle.window.specs.Limits.{least_missing, rows}
use Rattle.window.specs.Store.{Store, length_at, record_at}
use Rattle.window.specs.Group.{inside}
use Rattle.window.specs.Order.{is_mark, is_present, is_in_use, missing_at, shape_good, same_group, is_first, waiting, record_good, marks_good, lengths_good, records_good, counts_good, disorder}

-- a record in use of a store in order
pub record Waits (w : Window) (s : Store) (r : ℕ) : Type 0 where
  pub stream_high : (record_at s r).stream ≤ 1
  pub row-permitted : no_row (record_at s r).stream w.l ≡ false
  pub lies-inside : inside w (record_at s r).stream (record_at s r).snbase ≡ true
  pub size-good : good_length w.p (record_at s r).payload_length ≡ true
  pub is_the_first : (q : ℕ) → q < r → is_in_use w s q ≡ true → same_group (record_at s q) (record_at s r) ≡ false
  pub waits_for : least_missing ≤ length (missing_at w s r)

-- a store in order
pub record InOrder (w : Window) (s : Store) : Type 0 where
  pub good_marks : (i : ℕ) → i < w.n → get_or s.marks i 0 ≤ 1
  pub good_lengths : (i : ℕ) → i < w.n → is_present s.marks i ≡ true → good_length w.p (length_at s i) ≡ true
  pub uses_good : (r : ℕ) → r < rows w → (record_at s r).in_use ≤ 1
  pub records_wait : (r : ℕ) → r < rows w → is_in_use w s r ≡ true → Waits w s r
  pub present-count : w.present ≡ count (is_present s.marks) (up_to w.n)
  pub use_count : w.in_use ≡ count (is_in_use w s) (up_to (rows w))

-- ---- from the test to the facts, and back
past : (a b : Bool) → a ≡ true → (not a || b) ≡ true → b ≡ true
past a b e h = rw e at h

under : (a b : Bool) → (a && b) ≡ false → a ≡ true → b ≡ false
under a b h e = rw e at h

module _ (w : Window) (s : Store) where
  abbrev shape : ℕ → Bool
  shape r = shape_good w (record_at s r).stream (record_at s r).snbase

  abbrev size : ℕ → Bool
  size r = good_length w.p (record_at s r).payload_length

  -- a record before r is in use and names r's group
  abbrev before : ℕ → ℕ → Bool
  before r q = is_in_use w s q && same_group (record_at s q) (record_at s r)

  pub waits : (r : ℕ) → is_in_use w s r ≡ true → record_good w s r ≡ true → Waits w s r
  waits r u e =
      let g = and_split (shape r && size r && is_first w s r) (waiting w s r) (past (is_in_use w s r) (shape r && size r && is_first w s r && waiting w s r) u e) in
      let f = and_split (shape r && size r) (is_first w s r) g.0 in
      let z = and_split (shape r) (size r) f.0 in
      let v = record_at s r in
      let h = and_split (leb v.stream 1 && not (no_row v.stream w.l)) (inside w v.stream v.snbase) z.0 in
      let i = and_split (leb v.stream 1) (not (no_row v.stream w.l)) h.0 in
      record {
        stream_high = leb-true v.stream 1 i.0;
        row-permitted = not-true (no_row v.stream w.l) i.1;
        lies-inside = h.1;
        size-good = z.1;
        is_the_first = λ q l u'. under (is_in_use w s q) (same_group (record_at s q) (record_at s r)) (any_false (before r) r (not-true (any (before r) (up_to r)) f.1) q l) u';
        waits_for = leb-true least_missing (length (missing_at w s r)) g.1;
      }

  pub in_order : disorder w s ≡ false → InOrder w s
  unfolding disorder
  in_order e =
      let marks = marks_good w s.marks in
      let lengths = lengths_good w s.lengths s.marks in
      let a = and_split (marks && lengths && records_good w s) (counts_good w s) (not-false (marks && lengths && records_good w s && counts_good w s) e) in
      let b = and_split (marks && lengths) (records_good w s) a.0 in
      let m = and_split marks lengths b.0 in
      let n = and_split (eqb w.present (count (is_present s.marks) (up_to w.n))) (eqb w.in_use (count (is_in_use w s) (up_to w.k))) a.1 in
      let each : (r : ℕ) → r < w.k → (is_mark (record_at s r).in_use ≡ true) × (record_good w s r ≡ true) =
      λ r l. and_split (is_mark (record_at s r).in_use) (record_good w s r) (all_true (λ r. is_mark (record_at s r).in_use && record_good w s r) w.k b.1 r l) in
      record {
        good_marks = λ i l. leb-true (get_or s.marks i 0) 1 (all_true (λ i. is_mark (get_or s.marks i 0)) w.n m.0 i l);
        good_lengths = λ i l u. past (is_present s.marks i) (good_length w.p (length_at s i)) u (all_true (λ i. not (is_present s.marks i) || good_length w.p (get_or s.lengths i 0)) w.n m.1 i l);
        uses_good = λ r l. leb-true (record_at s r).in_use 1 (each r l).0;
        records_wait = λ r l u. waits r u (each r l).1;
        present-count = eqb-true w.present (count (is_present s.marks) (up_to w.n)) n.0;
        use_count = eqb-true w.in_use (count (is_in_use w s) (up_to w.k)) n.1;
      }

both : {a b : Bool} → a ≡ true → b ≡ true → (a && b) ≡ true
both e f = rw (e, f)

apart : (a b : Bool) → (a ≡ true → b ≡ false) → (a && b) ≡ false
apart true b h = h refl
apart false b h = refl

good_where : (a b : Bool) → (a ≡ true → b ≡ true) → (not a || b) ≡ true
good_where true b h = h refl
good_where false b h = refl

module _ (w : Window) (s : Store) where
  pub waits-good : (r : ℕ) → (is_in_use w s r ≡ true → Waits w s r) → record_good w s r ≡ true
  waits-good r h =
      good_where (is_in_use w s r) (shape w s r && size w s r && is_first w s r && waiting w s r)
      (λ u.
      let g = h u in
      both
      (both
      (both (both (both (le-leb (record_at s r).stream 1 g.stream_high) (ap not g.row-permitted)) g.lies-inside) g.size-good)
      (ap not (false-any (before w s r) r (λ q l. apart (is_in_use w s q) (same_group (record_at s q) (record_at s r)) (g.is_the_first q l)))))
      (le-leb least_missing (length (missing_at w s r)) g.waits_for))

  pub order_in : InOrder w s → disorder w s ≡ false
  unfolding disorder
  order_in o =
      ap not
      (both
      (both
      (both
      (true-all (λ i. is_mark (get_or s.marks i 0)) w.n (λ i l. le-leb (get_or s.marks i 0) 1 (o.good_marks i l)))
      (true-all (λ i. not (is_present s.marks i) || good_length w.p (get_or s.lengths i 0)) w.n (λ i l. good_where (is_present s.marks i) (good_length w.p (length_at s i)) (o.good_lengths i l))))
      (true-all (λ r. is_mark (record_at s r).in_use && record_good w s r) w.k (λ r l. both (le-leb (record_at s r).in_use 1 (o.uses_good r l)) (waits-good r (o.records_wait r l)))))
      (both
      (eq-eqb w.present (count (is_present s.marks) (up_to w.n)) o.present-count)
      (eq-eqb w.in_use (count (is_in_use w s) (up_to w.k)) o.use_count)))
