-- The ways through refusals 1 to 5 over a hand, and what is known behind them. Assumes nothing.
use mathlib.Core.Path.{◌≡◌, sym, ap, ◌∙◌}
use mathlib.Core.Bool.{Bool, true, false, not, ◌&&◌, ◌||◌, not-not}
use mathlib.Core.List.{List}
use Prim.Native.Nat.{ℕ, ◌<◌, ◌≤◌}
use native.Mathlib.Omega.{arith}
use lib.Dec.{eqb}
use lib.ListN.{length, get_or}
use borrow.Author.Tests.{eqb-true, eqb-false, eq-eqb, leb-true, ltb-false, not-false}
use Rattle.answer.specs.First.{first}
use Rattle.sequence.specs.Lists.{up_to, all, count}
use Rattle.sequence.proofs.Lists.{and_split, or_split, all_true}
use Rattle.rtp.specs.Length.{good_length, whole-high}
use Rattle.window.specs.declared.Record.{Record}
use Rattle.window.specs.declared.Sizes.{Sizes}
use Rattle.window.specs.declared.Window.{Window}
use Rattle.window.specs.Limits.{set_up_tests}
use Rattle.window.specs.Store.{Store, stored, sizes_of, short_sizes, short_store}
use Rattle.window.specs.Bounds.{set_up_good}
use Rattle.window.specs.Group.{is_missing}
use Rattle.window.specs.Order.{used, is_mark, is_present, marks_good, lengths_good, records_good, counts_good, disorder}
use Rattle.calls.proofs.Standing.{set_up-stops, store-stops, order-stops, none-stops}
use Rattle.table.specs.declared.Row.{Row}
use Rattle.table.specs.View.{it_at, scatter}
use Rattle.table.specs.Apart.{Fits, Alike, alike_refl, alike-length, alike-it, length-scatter}
use Rattle.table.specs.Hold.{used_rows, gap-few}
use Rattle.table.specs.Sound.{Sound}
use Rattle.order.specs.Rows.{row_good, Ordered}
use Rattle.order.specs.Stands.{Taken, Long, Stood}
use Rattle.order.proofs.Agree.{count_most, count_same}
use Rattle.order.proofs.Scattered.{records_good_lem, used_rows_lem}

-- ---- refusal 5

-- five tests, each as another
five : {a b c d e a' b' c' d' e' : Bool} → a ≡ a' → b ≡ b' → c ≡ c' → d ≡ d' → e ≡ e' → ((a && b && c) && (d && e)) ≡ ((a' && b' && c') && (d' && e'))
five p q r s t = rw (p, q, r, s, t)

-- a present position has a good length, which is at most P
low : (w : Window) (lengths marks : List ℕ) → marks_good w marks ≡ true → lengths_good w lengths marks ≡ true → (i : ℕ) → i < w.n → is_missing marks i ≡ false → get_or lengths i 0 ≤ w.p
low w lengths marks m g i l e =
    let k = leb-true (get_or marks i 0) 1 (all_true (λ i. is_mark (get_or marks i 0)) w.n m i l) in
    let z = eqb-false (get_or marks i 0) 0 e in
    let one : get_or marks i 0 ≡ 1 = omega arith in
    whole-high w.p w.p (get_or lengths i 0) (past (is_present marks i) (good_length w.p (get_or lengths i 0)) (eq-eqb (get_or marks i 0) 1 one) (all_true (λ i. not (is_present marks i) || good_length w.p (get_or lengths i 0)) w.n g i l))
  where
    past : (a b : Bool) → a ≡ true → (not a || b) ≡ true → b ≡ true
    past a b e h = rw e at h

module _ (w : Window) (lengths marks : List ℕ) (hs hs' : List Row) (m : ℕ) (len : length hs ≡ m) (good : Bool) (n : ℕ) (ones : ℕ) (marked measured : Bool) (rows : good ≡ all (row_good w marks hs) (up_to m)) (uses : n ≡ count (λ i. used (it_at hs i)) (up_to m)) (counted : ones ≡ count (is_present marks) (up_to w.n)) (stamped : marked ≡ marks_good w marks) (sized : measured ≡ lengths_good w lengths marks) where
  -- the answer
  abbrev answer : Bool
  answer = (marked && measured && good) && (eqb w.present ones && eqb w.in_use n)

  -- it is what the test says of every table
  order_is : (media timestamps parity : List ℕ) (t : List Record) → Fits t w.k hs → answer ≡ not (disorder w (stored media timestamps lengths marks parity (scatter hs t)))
  unfolding disorder
  order_is media timestamps parity t f =
      let s = stored media timestamps lengths marks parity (scatter hs t) in
      five
      stamped
      sized
      (rows ∙ ap (λ (k : ℕ). all (row_good w marks hs) (up_to k)) (sym len) ∙ sym (records_good_lem w media timestamps lengths marks parity f))
      (ap (eqb w.present) counted)
      (ap (eqb w.in_use) (uses ∙ ap (λ (k : ℕ). count (λ i. used (it_at hs i)) (up_to k)) (sym len) ∙ sym (used_rows_lem w media timestamps lengths marks parity f)))
      ∙ sym (not-not (marks_good w marks && lengths_good w lengths marks && records_good w s && counts_good w s))

  -- what the test of order says and leaves
  pub ordered : Alike hs' hs → (good ≡ true → Sound w marks hs') → Ordered w lengths marks hs hs' answer
  ordered a sound =
      record {
        alike = a;
        is = order_is;
        sound = λ g. sound (and_split (marked && measured) good (and_split (marked && measured && good) _ g).0).1;
        lengths-low = λ g.
            let t = and_split marked measured (and_split (marked && measured) good (and_split (marked && measured && good) _ g).0).0 in
            low w lengths marks (sym stamped ∙ t.0) (sym sized ∙ t.1);
        few-present = λ g.
            let e = eqb-true w.present ones (and_split (eqb w.present ones) (eqb w.in_use n) (and_split (marked && measured && good) _ g).1).0 in
            omega (arith, count_most (is_present marks) w.n);
        few-used = λ g.
            let e = eqb-true w.in_use n (and_split (eqb w.present ones) (eqb w.in_use n) (and_split (marked && measured && good) _ g).1).1 in
            omega (arith, count_most (λ i. used (it_at hs i)) m);
        used-is = λ g. eqb-true w.in_use n (and_split (eqb w.present ones) (eqb w.in_use n) (and_split (marked && measured && good) _ g).1).1 ∙ uses ∙ ap (λ (k : ℕ). count (λ i. used (it_at hs i)) (up_to k)) (sym len);
      }

-- ---- refusals 1 to 5

-- where no part is short
pub long_of : (w : Window) (z : Sizes) → short_sizes w z ≡ false → Long w z
long_of w z e =
    let s5 = or_split _ _ e in
    let s4 = or_split _ _ s5.0 in
    let s3 = or_split _ _ s4.0 in
    let s2 = or_split _ _ s3.0 in
    let s1 = or_split _ _ s2.0 in
    record {
      media-long = ltb-false _ _ s1.0;
      timestamps-long = ltb-false _ _ s1.1;
      lengths-long = ltb-false _ _ s2.1;
      marks-long = ltb-false _ _ s3.1;
      parity-long = ltb-false _ _ s4.1;
      records-long = ltb-false _ _ s5.1;
    }

module _ (w : Window) (z : Sizes) (short : Bool) (lengths marks : List ℕ) (hs : List Row) where
  -- refusals 1 to 3
  pub set_up_way : (r : ℕ) → r ≡ first (set_up_tests w) → (r ≡ 0 → ⊥) → Stood w z short lengths marks hs hs r
  set_up_way r e h =
      record {
        alike = alike_refl hs;
        is = λ media timestamps parity t ez taken. set_up-stops w (stored media timestamps lengths marks parity (scatter hs t)) short r e h;
        none = λ q. absurd (h q);
      }

  module _ (ok : first (set_up_tests w) ≡ 0) (b : Bool) (eb : b ≡ short_sizes w z) where
    -- the test of the sizes is that of the store
    sizes-is : (s : Store) → z ≡ sizes_of s → (short_store w s || short) ≡ (b || short)
    sizes-is s e = ap (λ (x : Bool). x || short) (sym (eb ∙ ap (short_sizes w) e))

    -- refusal 4
    pub short_way : (b || short) ≡ true → Stood w z short lengths marks hs hs 4
    short_way h =
        record {
          alike = alike_refl hs;
          is = λ media timestamps parity t ez taken. let s = stored media timestamps lengths marks parity (scatter hs t) in store-stops w s short ok (sizes-is s ez ∙ h);
          none = λ q. absurd (omega arith);
        }

    module _ (h : (b || short) ≡ false) where
      -- the store is as long as the window needs
      pub long_way : Long w z
      long_way = long_of w z (sym eb ∙ (or_split b short h).0)

      -- a hand that is taken of a table fits it
      fits_way : (media timestamps parity : List ℕ) (t : List Record) → z ≡ sizes_of (stored media timestamps lengths marks parity (scatter hs t)) → Taken t w.k hs → Fits t w.k hs
      fits_way media timestamps parity t ez taken =
          let e = ap (λ (x : Sizes). x.records) ez ∙ length-scatter hs t in
          let l : w.k ≤ length t = omega (arith, long_way.records-long) in
          record { apart = taken.apart l (set_up_good w ok).k-high; enough = l }

      module _ (hs' : List Row) (good : Bool) (o : Ordered w lengths marks hs hs' good) where
        -- refusal 5
        pub order_way : not good ≡ true → Stood w z short lengths marks hs hs' 5
        order_way g =
            record {
              alike = o.alike;
              is = λ media timestamps parity t ez taken. let s = stored media timestamps lengths marks parity (scatter hs t) in order-stops w s short ok (sizes-is s ez ∙ h) good (o.is media timestamps parity t (fits_way media timestamps parity t ez taken)) g;
              none = λ q. absurd (omega arith);
            }

        -- as many rows are in use as before
        used-same : used_rows hs' ≡ used_rows hs
        used-same =
            ap (λ (n : ℕ). count (λ i. used (it_at hs' i)) (up_to n)) (alike-length o.alike)
            ∙ count_same (λ i. used (it_at hs' i)) (λ i. used (it_at hs i)) (length hs) (λ i l. ap (λ (v : Record). used v) (alike-it o.alike i))

        -- none of them
        pub none_way : not good ≡ false → Stood w z short lengths marks hs hs' 0
        none_way g =
            record {
              alike = o.alike;
              is = λ media timestamps parity t ez taken. let s = stored media timestamps lengths marks parity (scatter hs t) in none-stops w s short ok (sizes-is s ez ∙ h) good (o.is media timestamps parity t (fits_way media timestamps parity t ez taken)) g;
              none = λ q.
                  let y = not-false good g in
                  record {
                    set_up = set_up_good w ok;
                    long = long_way;
                    fits = (or_split b short h).1;
                    sound = o.sound y;
                    lengths-low = o.lengths-low y;
                    few-present = o.few-present y;
                    few-used = omega (arith, o.few-used y, alike-length o.alike);
                    free-low = λ l. omega (arith, l, o.used-is y, gap-few 0 hs', used-same);
                  };
            }
