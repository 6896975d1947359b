-- Releasing the parity in hand that has a member behind the new base (calls' Move.antt): each record that has one is set to zero, and the others
-- are as they were.
use Rattle.std.specs.Prelude.{◌≡◌, refl, ◌≢◌, ◌⊎◌, Bool, true, false, cond, ◌&&◌, List, ℕ, zero, suc, ◌*◌, ◌-◌, ◌<◌, ◌≤◌, ltb, take, drop, replicate}
use Rattle.std.proofs.Common.{sym, ap, ◌∙◌, inl, inr, true≢false, arith}
use Rattle.std.proofs.Math.Decide.{ℕ_discrete}
use Rattle.std.proofs.lemmas.List.{length-replicate}
use Rattle.xor.specs.Xor.{padded}
use Rattle.xor.specs.Parts.{part_front, part_rest}
use Rattle.sequence.specs.Lists.{any}
use Rattle.sequence.proofs.Lists.{and_split as both}
use Rattle.window.specs.declared.Record.{Record}
use Rattle.window.specs.declared.Window.{Window}
use Rattle.window.specs.Record.{blank}
use Rattle.window.specs.Limits.{rows}
use Rattle.window.specs.Store.{Store, payload_in, record_at, parity_at}
use Rattle.window.specs.Group.{group}
use Rattle.window.specs.Order.{used_by, is_in_use, group_at}
use Rattle.calls.specs.Content.{recovery_at}
use Rattle.calls.specs.State.{State, release, release_if, release_below}
use Rattle.calls.specs.Call.{begun}
use Rattle.calls.specs.Move.{behind}
use Rattle.guarantee.proofs.Ranges.{decide}
use Rattle.xor.specs.Parts.{part_fits}
use Rattle.guarantee.proofs.Parts.{by_front}
use Rattle.guarantee.specs.View.{Good, Missing}
use Rattle.guarantee.specs.Moves.{freed}
use Rattle.guarantee.proofs.Moves.{freed-blank, freed-same, freed-good}
use Rattle.guarantee.specs.Rounds.{at}
use Rattle.guarantee.specs.Demand3.{Stretch, recovery_sent}
use Rattle.guarantee.specs.Start.{Holds}
use Rattle.guarantee.specs.Moving.{cell_at, bytes_at}
use Rattle.guarantee.specs.Released.{Row, Released}

-- a record that is set to zero, with its bytes
freed-row : {w : Window} {a u : ℕ} {s : Store} (G : Good w a u s) (r : ℕ) → r < rows w → is_in_use w s r ≡ true → Row w (freed w s r) r blank (replicate w.p 0)
freed-row {w} {s = s} G r h e = record { is = freed-blank G r h e; has = part_front s.parity r w.p (replicate w.p 0) (let z = part_fits r (rows w) w.p h in omega (arith, G.fits.parity-long)) (length-replicate w.p 0) }

-- another stays
freed_stays : {w : Window} {a u : ℕ} {s : Store} (G : Good w a u s) (r : ℕ) → r < rows w → is_in_use w s r ≡ true → (q : ℕ) → q ≢ r → {v : Record} {bytes : List ℕ} → Row w s q v bytes → Row w (freed w s r) q v bytes
freed_stays {w} {s = s} G r h e q n z =
    record { is = freed-same G r h e q n ∙ z.is; has = part_rest s.parity r w.p (replicate w.p 0) (let z = part_fits r (rows w) w.p h in omega (arith, G.fits.parity-long)) (length-replicate w.p 0) q n ∙ z.has }

module _ {w : Window} {a u : ℕ} {s : Store} (G : Good w a u s) (by : ℕ) where
  -- one record more: the test speaks of the state so far, in which this record is as it was
  release-one : (m : ℕ) → m < rows w → (y : State) → Released w a s by m y → Released w a s by (suc m) (release_if (behind by) m y)
  release-one m hm y f = rw (f.is, (f.kept m hm (λ e. omega arith)).is) (go (is_in_use w s m && any (λ i. ltb i by) (group_at w s m)) refl)
    where
      t : Store
      t = f.store

      x : State
      x = at w a f.used t 0 0

      used-on : behind by (begun w s) m ≡ true → is_in_use w t m ≡ true
      used-on e = ap (used_by w) (f.kept m hm (λ e. omega arith)).is ∙ (both (is_in_use w s m) (any (λ i. ltb i by) (group_at w s m)) e).0

      go : (b : Bool) → behind by (begun w s) m ≡ b → Released w a s by (suc m) (cond b (release m x) x)
      go false e = record {
        used = f.used;
        store = t;
        is = refl;
        good = f.good;
        media = f.media;
        timestamps = f.timestamps;
        lengths = f.lengths;
        marks = f.marks;
        gone = λ r l c. f.gone r (let n : r ≢ m = λ z. true≢false (sym c ∙ ap (behind by (begun w s)) z ∙ e) in omega (arith, n)) c;
        kept = λ r h l. f.kept r h (λ c. omega (arith, l c));
      }
      go true e = record {
        used = f.used - 1;
        store = freed w t m;
        is = refl;
        good = freed-good f.good m hm (used-on e);
        media = f.media;
        timestamps = f.timestamps;
        lengths = f.lengths;
        marks = f.marks;
        gone = λ r l c. last r l c (ℕ_discrete r m);
        kept = λ r h l. freed_stays f.good m hm (used-on e) r (λ z. let y = l (ap (behind by (begun w s)) z ∙ e) in omega arith) (f.kept r h (λ c. omega (arith, l c)));
      }
        where
          last : (r : ℕ) → r < suc m → behind by (begun w s) r ≡ true → Dec (r ≡ m) → Row w (freed w t m) r blank (replicate w.p 0)
          last r l c (yes z) = rw z (freed-row f.good m hm (used-on e))
          last r l c (no n) = freed_stays f.good m hm (used-on e) r n (f.gone r (omega arith) c)

  -- the first m records
  pub release_below_lem : (m : ℕ) → m ≤ rows w → Released w a s by m (release_below (behind by) m (at w a u s 0 0))
  release_below_lem zero h = record {
    used = u;
    store = s;
    is = refl;
    good = G;
    media = refl;
    timestamps = refl;
    lengths = refl;
    marks = refl;
    gone = λ r l e. absurd (omega arith);
    kept = λ r l e. record { is = refl; has = refl };
  }
  release_below_lem (suc m) h = release-one m h (release_below (behind by) m (at w a u s 0 0)) (release_below_lem m (omega arith))

-- all of them
module _ {w : Window} {a : ℕ} {s : Store} {by : ℕ} {y : State} (f : Released w a s by (rows w) y) where
  -- each record, by whether it was in use with a member behind
  pub released-row : (r : ℕ) → r < rows w → (record_at f.store r ≡ cond (behind by (begun w s) r) blank (record_at s r)) × (bytes_at w f.store r ≡ cond (behind by (begun w s) r) (replicate w.p 0) (bytes_at w s r))
  released-row r h = go (behind by (begun w s) r) refl
    where
      go : (b : Bool) → behind by (begun w s) r ≡ b → (record_at f.store r ≡ cond b blank (record_at s r)) × (bytes_at w f.store r ≡ cond b (replicate w.p 0) (bytes_at w s r))
      go true e = let z = f.gone r h e in (z.is, z.has)
      go false e = let z = f.kept r h (λ c. absurd (true≢false (sym c ∙ e))) in (z.is, z.has)

  module _ (r : ℕ) (h : r < rows w) (e : is_in_use w f.store r ≡ true) where
    -- a record that is in use was not behind
    not_behind : behind by (begun w s) r ≡ false
    not_behind = go (decide (behind by (begun w s) r))
      where
        go : (behind by (begun w s) r ≡ true) ⊎ (behind by (begun w s) r ≡ false) → behind by (begun w s) r ≡ false
        go (inl c) = absurd (true≢false (sym e ∙ ap (used_by w) (f.gone r h c).is))
        go (inr c) = c

    -- so it is as it was
    same_row : Row w f.store r (record_at s r) (bytes_at w s r)
    same_row = f.kept r h (λ c. absurd (true≢false (sym c ∙ not_behind)))

    -- it was in use
    was-used : is_in_use w s r ≡ true
    was-used = rw same_row.is at e

    -- and holds what it held
    same_recovery_lem : recovery_at w f.store r ≡ recovery_at w s r
    same_recovery_lem =
        let z : parity_at w f.store r ≡ parity_at w s r =
        ap (λ v. payload_in w.p f.store.parity v.payload_length r) same_row.is
        ∙ by_front w.p (record_at s r).payload_length w.p (drop (r * w.p) f.store.parity)
        ∙ ap (λ l. padded w.p (take (record_at s r).payload_length l)) same_row.has
        ∙ sym (by_front w.p (record_at s r).payload_length w.p (drop (r * w.p) s.parity)) in
        λ k. record {
          content = record { timestamp = (same_row.is k).timestamp_recovery; length = (same_row.is k).length_recovery; payload = z k };
          size = (same_row.is k).payload_length;
        }

    -- with no member behind
    pub released-clear : any (λ i. ltb i by) (group_at w f.store r) ≡ false
    released-clear = rw same_row.is (rw was-used at not_behind)

  -- all that there is for a position is as it was
  pub released_cell : (i : ℕ) → cell_at w f.store i ≡ cell_at w s i
  released_cell i = rw (f.media, f.timestamps, f.lengths, f.marks)

  -- what is still in hand waits for as many
  pub released-waits : {k : ℕ} → Missing k w s → Missing k w f.store
  released-waits K = record { least = λ r h e. rw ((same_row r h e).is, f.marks) (K.least r h (was-used r h e)) }

  -- and what is held is unaltered
  pub released-holds : {t : Stretch} → Holds w t s → Holds w t f.store
  released-holds {t} H = record {
    media = λ i h e. rw (f.media, f.timestamps, f.lengths) (H.media i h (rw f.marks at e));
    parity = λ r h e. same_recovery_lem r h e ∙ H.parity r h (was-used r h e) ∙ ap (λ (v : Record). recovery_sent w t (group w v.stream v.snbase)) (sym (same_row r h e).is);
  }
