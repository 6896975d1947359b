-- A store whose positions moved down, under a window value whose base moved on, where no parity in hand has a member behind the new base: it is
-- in order, and what it holds is unaltered for the stretch moved on.
use Rattle.std.specs.Prelude.{◌≡◌, refl, true, false, not, ℕ, zero, suc, ◌+◌, ◌*◌, ◌-◌, ◌<◌, ◌≤◌, eqb, ltb, length, get_or, take, drop}
use Rattle.std.proofs.Common.{sym, ap, ◌∙◌, mul-le-mul_right, add-mul, arith, ltb-true, lt-ltb, eqb-true}
use mathlib.Core.List.{List, map, map-map, Memᴰ}
use Rattle.std.proofs.Math.Decide.{dec_lt}
use Rattle.xor.specs.Xor.{xor_all, xor_payloads}
use Rattle.sequence.specs.Lists.{up_to, all, any, count}
use Rattle.sequence.proofs.Lists.{count_map, count_split, all_map}
use Rattle.sequence.specs.Wrap.{members}
use Rattle.rtp.specs.Fec.{offset_of, na_of}
use Rattle.window.specs.declared.Window.{Window}
use Rattle.window.specs.Limits.{width, rows}
use Rattle.window.specs.Store.{Store, timestamp_at, length_at, payload_at, payload_in, record_at}
use Rattle.window.specs.Group.{inside, is_missing, missing}
use Rattle.window.specs.Order.{is_present, is_in_use, group_at, missing_at}
use Rattle.calls.specs.Content.{content_at, longest}
use Rattle.calls.specs.Move.{leaving_count, shifted, advanced}
use Rattle.calls.proofs.Down.{length_moved, moved_at, moved_new}
use Rattle.guarantee.proofs.Ranges.{up_to-lt, all_of, of_all, keep_ext, count-zero}
use Rattle.xor.specs.Parts.{part_fits}
use Rattle.guarantee.specs.View.{Limits, Good, Missing}
use Rattle.guarantee.proofs.Shift.{moved-run, moved-zeros, moved-payload, onward-all}
use Rattle.guarantee.specs.Demand3.{Stretch, recovery_sent, content_sent}
use Rattle.guarantee.specs.Start.{Holds}
use Rattle.guarantee.specs.Moving.{onward, cell_at, empty_cell}

-- ---- what was sent
-- the recovery of a group over the stretch is that over the stretch moved on, of the group's positions there
pub recovery_onward : (w : Window) (t : Stretch) (by : ℕ) (g : List ℕ) → recovery_sent w t (map (λ i. by + i) g) ≡ recovery_sent (advanced by 0 w) (onward by t) g
recovery_onward w t by g =
    let e = map-map (λ i. (t i).timestamp) (λ i. by + i) g in
    let f = map-map (λ i. length (t i).payload) (λ i. by + i) g in
    let h = map-map (λ i. (content_sent w t i).payload) (λ i. by + i) g in
    λ k. record { content = record { timestamp = xor_all (e k); length = xor_all (f k); payload = xor_payloads w.p (h k) }; size = longest (f k) }

-- ---- what leaves
-- of marks that are 0 or 1, "not missing" is "present"
not-missing : (m : ℕ) → m ≤ 1 → not (eqb m 0) ≡ eqb m 1
not-missing zero h = refl
not-missing (suc zero) h = refl
not-missing (suc (suc m)) h = absurd (omega arith)

-- so what leaves are the first packets present
pub leaving-present : {w : Window} {a u : ℕ} {s : Store} → Good w a u s → (by : ℕ) → by ≤ w.n → leaving_count s by ≡ count (is_present s.marks) (up_to by)
leaving-present {s = s} G by h = ap length (keep_ext (λ i. not (is_missing s.marks i)) (is_present s.marks) (up_to by) (λ i m. not-missing (get_or s.marks i 0) (G.mark i (omega (arith, up_to-lt by i m)))))

-- ---- what stays
module _ {w : Window} (L : Limits w) {a u : ℕ} {s : Store} (G : Good w a u s) (by : ℕ) (hb : by ≤ w.n)
    (clear : (r : ℕ) → r < rows w → is_in_use w s r ≡ true → any (λ i. ltb i by) (group_at w s r) ≡ false) where
  -- a mark moves down with its position
  mark_at_lem : (i : ℕ) → i < w.n - by → get_or (shifted w by s).marks i 0 ≡ get_or s.marks (by + i) 0
  mark_at_lem = moved_at by w.n s.marks hb G.fits.marks-long

  -- and a new position is missing
  mark-new : (i : ℕ) → i < by → get_or (shifted w by s).marks (w.n - by + i) 0 ≡ 0
  mark-new = moved_new by w.n s.marks hb G.fits.marks-long

  -- a position that is present moved down
  present-moved : (i : ℕ) → i < w.n → (get_or (shifted w by s).marks i 0 ≡ 0 → ⊥) → i < w.n - by
  present-moved i h e = go (dec_lt i (w.n - by))
    where
      go : Dec (i < w.n - by) → i < w.n - by
      go (yes l) = l
      go (no l) =
          let z : w.n - by + (i - (w.n - by)) ≡ i = omega arith in
          absurd (e (ap (λ k. get_or (shifted w by s).marks k 0) (sym z) ∙ mark-new (i - (w.n - by)) (omega arith)))

  -- a length
  length_at_lem : (i : ℕ) → i < w.n - by → length_at (shifted w by s) i ≡ length_at s (by + i)
  length_at_lem = moved_at by w.n s.lengths hb G.fits.lengths-long

  -- a content
  content_at_lem : (i : ℕ) → i < w.n - by → content_at (advanced by 0 w) (shifted w by s) i ≡ content_at w s (by + i)
  content_at_lem i h =
      let e : timestamp_at (shifted w by s) i ≡ timestamp_at s (by + i) = moved_at by w.n s.timestamps hb G.fits.timestamps-long i h in
      let f : payload_at w (shifted w by s) i ≡ payload_at w s (by + i) =
      ap (λ m. payload_in w.p (shifted w by s).media m i) (length_at_lem i h) ∙ moved-payload by w.n w.p s.media hb G.fits.media-long (length_at s (by + i)) i h in
      λ k. record { timestamp = e k; length = length_at_lem i h k; payload = f k }

  -- all that there is for a position moves down
  pub cell_at_lem : (i : ℕ) → i < w.n - by → cell_at w (shifted w by s) i ≡ cell_at w s (by + i)
  cell_at_lem i h =
      let a : by * w.p ≤ w.n * w.p = mul-le-mul_right w.p hb in
      let b : (by + i) * w.p ≡ by * w.p + i * w.p = add-mul by i w.p in
      let c = part_fits (by + i) w.n w.p (omega arith) in
      let d = moved-run (by * w.p) (w.n * w.p) s.media a G.fits.media-long (i * w.p) w.p (omega arith) ∙ ap (λ k. take w.p (drop k s.media)) (sym b) in
      let e = moved_at by w.n s.timestamps hb G.fits.timestamps-long i h in
      λ k. record { bytes = d k; timestamp = e k; length = length_at_lem i h k; mark = mark_at_lem i h k }

  -- and a new one is all zeros
  pub cell_new : (i : ℕ) → i < by → cell_at w (shifted w by s) (w.n - by + i) ≡ empty_cell w
  cell_new i h =
      let a : by * w.p ≤ w.n * w.p = mul-le-mul_right w.p hb in
      let q : w.n - by + by ≡ w.n = omega arith in
      let b : (w.n - by + i) * w.p ≡ w.n * w.p - by * w.p + i * w.p = omega (arith, add-mul (w.n - by) i w.p, sym (add-mul (w.n - by) by w.p) ∙ ap (λ k. k * w.p) q) in
      let d = ap (λ k. take w.p (drop k (shifted w by s).media)) b ∙ moved-zeros (by * w.p) (w.n * w.p) s.media a G.fits.media-long (i * w.p) w.p (part_fits i by w.p h) in
      let e = moved_new by w.n s.timestamps hb G.fits.timestamps-long i h in
      let f = moved_new by w.n s.lengths hb G.fits.lengths-long i h in
      λ k. record { bytes = d k; timestamp = e k; length = f k; mark = mark-new i h k }

  module _ (r : ℕ) (hr : r < rows w) (e : is_in_use w s r ≡ true) where
    -- the group of a record in use moves down
    group_moved : group_at w s r ≡ map (λ i. by + i) (group_at (advanced by 0 w) (shifted w by s) r)
    group_moved = onward-all width w.base by (omega (arith, L.based)) (members width (record_at s r).snbase (offset_of (record_at s r).stream w.l) (na_of (record_at s r).stream w.l w.d)) (clear r hr e)

    -- no member was among the new positions
    member-old : (i : ℕ) → Memᴰ i (group_at (advanced by 0 w) (shifted w by s) r) → i < w.n - by
    member-old i m =
        let z = ap (all (λ i. ltb i w.n)) (sym group_moved) ∙ (G.shaped r hr e).within in
        let y = ltb-true (by + i) w.n (all_of (λ i. ltb (by + i) w.n) (group_at (advanced by 0 w) (shifted w by s) r) (sym (all_map (λ i. ltb i w.n) (λ i. by + i) (group_at (advanced by 0 w) (shifted w by s) r)) ∙ z) i m) in
        omega arith

    -- so it lies in the window
    inside-at : inside (advanced by 0 w) (record_at s r).stream (record_at s r).snbase ≡ true
    inside-at = of_all (λ i. ltb i w.n) (group_at (advanced by 0 w) (shifted w by s) r) (λ i m. lt-ltb i w.n (omega (arith, member-old i m)))

    -- and as many of it are missing
    missing_moved : length (missing_at (advanced by 0 w) (shifted w by s) r) ≡ length (missing_at w s r)
    missing_moved =
        let g = group_at (advanced by 0 w) (shifted w by s) r in
        ap length (keep_ext (is_missing (shifted w by s).marks) (λ i. is_missing s.marks (by + i)) g (λ i m. ap (λ k. eqb k 0) (mark_at_lem i (member-old i m))))
        ∙ sym (count_map (is_missing s.marks) (λ i. by + i) g) ∙ ap (λ l. length (missing s.marks l)) (sym group_moved)

  -- those present are those that were, but for what left
  present-at : count (is_present (shifted w by s).marks) (up_to w.n) ≡ a - count (is_present s.marks) (up_to by)
  present-at =
      let new = is_present (shifted w by s).marks in
      let old = is_present s.marks in
      let e : w.n - by + by ≡ w.n = omega arith in
      let f : by + (w.n - by) ≡ w.n = omega arith in
      let x = sym (ap (λ k. count new (up_to k)) e) ∙ count_split new (w.n - by) by in
      let y = sym (ap (λ k. count old (up_to k)) f) ∙ count_split old by (w.n - by) in
      let z = count-zero (λ i. new (w.n - by + i)) (up_to by) (λ i m. ap (λ k. eqb k 1) (mark-new i (up_to-lt by i m))) in
      let q = ap length (keep_ext new (λ i. old (by + i)) (up_to (w.n - by)) (λ i m. ap (λ k. eqb k 1) (mark_at_lem i (up_to-lt (w.n - by) i m)))) in
      omega (arith, G.presents)

  -- the store is in order
  pub onward-good : Good (advanced by 0 w) (a - count (is_present s.marks) (up_to by)) u (shifted w by s)
  onward-good = record {
    fits = record {
      media-long = rw (length_moved (by * w.p) (w.n * w.p) s.media (mul-le-mul_right w.p hb) G.fits.media-long) G.fits.media-long;
      timestamps-long = rw (length_moved by w.n s.timestamps hb G.fits.timestamps-long) G.fits.timestamps-long;
      lengths-long = rw (length_moved by w.n s.lengths hb G.fits.lengths-long) G.fits.lengths-long;
      marks-long = rw (length_moved by w.n s.marks hb G.fits.marks-long) G.fits.marks-long;
      parity-long = G.fits.parity-long;
      records-long = G.fits.records-long;
    };
    mark = λ i h. marked i h (dec_lt i (w.n - by));
    long = λ i h e. let l = present-moved i h (present-some i e) in rw (length_at_lem i l) (G.long (by + i) (omega arith) (sym (ap (λ k. eqb k 1) (mark_at_lem i l)) ∙ e));
    good_use_mark = G.good_use_mark;
    shaped = λ r h e. let z = G.shaped r h e in record { known = z.known; rows = z.rows; within = inside-at r h e };
    sized = G.sized;
    apart = G.apart;
    presents = sym present-at;
    in_use = G.in_use;
  }
    where
      present-some : (i : ℕ) → is_present (shifted w by s).marks i ≡ true → get_or (shifted w by s).marks i 0 ≡ 0 → ⊥
      present-some i e z = let y = eqb-true (get_or (shifted w by s).marks i 0) 1 e in omega arith

      marked : (i : ℕ) → i < w.n → Dec (i < w.n - by) → get_or (shifted w by s).marks i 0 ≤ 1
      marked i h (yes l) = let z = G.mark (by + i) (omega arith) in omega (arith, mark_at_lem i l)
      marked i h (no l) =
          let z : w.n - by + (i - (w.n - by)) ≡ i = omega arith in
          omega (arith, ap (λ k. get_or (shifted w by s).marks k 0) (sym z) ∙ mark-new (i - (w.n - by)) (omega arith))

  -- its parity in hand waits for as many
  pub onward-waits : {m : ℕ} → Missing m w s → Missing m (advanced by 0 w) (shifted w by s)
  onward-waits K = record { least = λ r h e. let z = K.least r h e in omega (arith, missing_moved r h e) }

  -- and what it holds is unaltered for the stretch moved on
  pub onward-holds : {t : Stretch} → Holds w t s → Holds (advanced by 0 w) (onward by t) (shifted w by s)
  onward-holds {t} H = record {
    media = λ i h e. let l = present-moved i h (λ z. omega (arith, e)) in content_at_lem i l ∙ H.media (by + i) (omega arith) (sym (mark_at_lem i l) ∙ e);
    parity = λ r h e. H.parity r h e ∙ ap (recovery_sent w t) (group_moved r h e) ∙ recovery_onward w t by (group_at (advanced by 0 w) (shifted w by s) r);
  }
