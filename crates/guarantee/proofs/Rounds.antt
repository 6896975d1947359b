-- Rounds (calls' Settle.antt) as an engine of the theory: each is a number of steps, and enough of them bring the receiver to rest.
use Rattle.std.specs.Prelude.{◌≡◌, refl, ◌≢◌, Bool, false, cond, ◌&&◌, ℕ, zero, suc, ◌+◌, ◌-◌, ◌<◌, ◌≤◌, length, eqb, ltb}
use Rattle.std.proofs.Common.{sym, ap, ◌∙◌, ⊎_elim, true≢false, arith, eqb-true, eq-eqb}
use Rattle.std.proofs.Math.Path.{subst}
use Rattle.std.proofs.Math.Logic.{inl, inr}
use Rattle.std.proofs.Math.Bool.{true}
use Rattle.std.proofs.Math.Option.{Option, none, some}
use Rattle.std.proofs.Math.Decide.{ℕ_discrete}
use Rattle.std.proofs.lemmas.Bool.{eqb-false}
use Rattle.sequence.specs.Lists.{head_or}
use Rattle.sequence.proofs.Lists.{and_split as both}
use Rattle.rtp.specs.Length.{good_length}
use Rattle.window.specs.declared.Window.{Window}
use Rattle.window.specs.Limits.{rows}
use Rattle.window.specs.Store.{Store}
use Rattle.window.specs.Order.{is_in_use, group_at, missing_at}
use Rattle.calls.specs.Content.{Recovery, recovery_at}
use Rattle.calls.specs.State.{State, rebuild, count_spoilt, release, release_if, release_below}
use Rattle.calls.specs.Settle.{ready, rank, better, next_below, next, spent as idle, release_all, fits_at, rebuild_by, round_by, round}
use Rattle.peel.specs.Group.{count_none}
use Rattle.peel.specs.Peel.{gone, miss, Spoilt, stop, go_on}
use Rattle.peel.specs.Rest.{Still, Engine}
use Rattle.peel.proofs.Rest.{steps_then}
use Rattle.guarantee.specs.View.{code, check_at, Held, view, Good, Missing}
use Rattle.guarantee.proofs.View.{member-lt, miss-count, recovery_whole, held-count}
use Rattle.guarantee.specs.Moves.{Solved, rebuilt_in, freed}
use Rattle.guarantee.proofs.Moves.{single, solved, spoilt-by, rebuild-good, rebuild-full, step_rebuild, freed-other, freed-same, freed-fewer, freed-good, step_free, freed-full}
use Rattle.guarantee.specs.Rounds.{at, Picked, Freed, Working, done_by, Round}

-- nothing is not something
none-some : {A : Type 0} {x : A} → ◌≡◌ {A = Option A} none (some x) → ⊥
none-some e = true≢false (ap gone e)

-- the record that rebuilds next is ready
pub picked : (x : State) (m r : ℕ) → next_below x m ≡ some r → Picked x m r
picked x zero r e = absurd (none-some e)
picked x (suc m) r e = go (next_below x m) refl (picked x m r) e
  where
    is_last : ready x m ≡ true → ◌≡◌ {A = Option ℕ} (some m) (some r) → Picked x (suc m) r
    is_last q h = let z : m ≡ r = cc in record { below = omega arith; is-ready = ap (ready x) (sym z) ∙ q }

    go : (o : Option ℕ) → next_below x m ≡ o → (next_below x m ≡ some r → Picked x m r) → better x m o ≡ some r → Picked x (suc m) r
    go none q ih h = one (ready x m) refl h
      where
        one : (b : Bool) → ready x m ≡ b → cond b (some m) none ≡ some r → Picked x (suc m) r
        one true z k = is_last z k
        one false z k = absurd (none-some k)
    go (some n) q ih h = two (ready x m) (ltb (rank x m) (rank x n)) refl h
      where
        old : ◌≡◌ {A = Option ℕ} (some n) (some r) → Picked x (suc m) r
        old k = let p = ih (q ∙ k) in record { below = omega (arith, p.below); is-ready = p.is-ready }

        two : (b c : Bool) → ready x m ≡ b → cond (b && c) (some m) (some n) ≡ some r → Picked x (suc m) r
        two true true z k = is_last z k
        two true false z k = old k
        two false c z k = old k

-- where there is none, no record is ready
pub unpicked : (x : State) (m : ℕ) → next_below x m ≡ none → (r : ℕ) → r < m → ready x r ≡ false
unpicked x zero e r h = absurd (omega arith)
unpicked x (suc m) e r h = go (next_below x m) refl (unpicked x m) e
  where
    go : (o : Option ℕ) → next_below x m ≡ o → (next_below x m ≡ none → (q : ℕ) → q < m → ready x q ≡ false) → better x m o ≡ none → ready x r ≡ false
    go none q ih k = one (ready x m) refl k
      where
        one : (b : Bool) → ready x m ≡ b → cond b (some m) none ≡ none → ready x r ≡ false
        one true z j = absurd (none-some (sym j))
        one false z j = last (ℕ_discrete r m)
          where
            last : Dec (r ≡ m) → ready x r ≡ false
            last (yes c) = ap (ready x) c ∙ z
            last (no c) = ih q r (omega arith)
    go (some n) q ih k = absurd (two (ready x m && ltb (rank x m) (rank x n)) k)
      where
        two : (b : Bool) → cond b (some m) (some n) ≡ none → ⊥
        two true j = none-some (sym j)
        two false j = none-some (sym j)

module _ {w : Window} {a u : ℕ} {s : Store} (G : Good w a u s) (c q : ℕ) where
  -- one record more
  free_one : (m : ℕ) → m < rows w → (y : State) → Freed w a u s c q m y → Freed w a u s c q (suc m) (release_if idle m y)
  free_one m hm y f = rw f.is (go (is_in_use w t m) (eqb (length (missing_at w t m)) 0) refl refl)
    where
      t : Store
      t = f.store

      x : State
      x = at w a f.used t c q

      -- it was not to be released
      stays : (is_in_use w t m ≡ true → 1 ≤ length (missing_at w t m)) → Freed w a u s c q (suc m) x
      stays h = record {
        used = f.used;
        store = t;
        is = refl;
        good = f.good;
        steps = f.steps;
        spent = f.spent;
        least = λ r l e. last r l e (ℕ_discrete r m);
      }
        where
          last : (r : ℕ) → r < suc m → is_in_use w t r ≡ true → Dec (r ≡ m) → 1 ≤ length (missing_at w t r)
          last r l e (yes z) = rw z (h (ap (is_in_use w t) (sym z) ∙ e))
          last r l e (no z) = f.least r (omega arith) e

      go : (b d : Bool) → is_in_use w t m ≡ b → eqb (length (missing_at w t m)) 0 ≡ d → Freed w a u s c q (suc m) (cond (b && d) (release m x) x)
      go false d p e = stays (λ h. absurd (true≢false (sym h ∙ p)))
      go true false p e = stays (λ h. let z = eqb-false (length (missing_at w t m)) 0 e in omega arith)
      go true true p e = record {
        used = f.used - 1;
        store = freed w t m;
        is = refl;
        good = freed-good f.good m hm p;
        steps = steps_then (code w) f.steps (go_on (step_free f.good m hm p (inl (freed-full f.good m hm p (eqb-true (length (missing_at w t m)) 0 e)))) stop);
        spent = inr (⊎_elim (λ z. let l = freed-fewer f.good m hm p in omega (arith, z.1)) (λ z. let l = freed-fewer f.good m hm p in omega arith) f.spent);
        least = λ r l h. let n = freed-other f.good m hm p r h in old r l h n;
      }
        where
          old : (r : ℕ) → r < suc m → is_in_use w (freed w t m) r ≡ true → r ≢ m → 1 ≤ length (missing_at w (freed w t m) r)
          old r l e n = let z = freed-same f.good m hm p r n in rw z (f.least r (omega arith) (rw z at e))

  -- the first m records
  pub free_below_lem : (m : ℕ) → m ≤ rows w → Freed w a u s c q m (release_below idle m (at w a u s c q))
  free_below_lem zero h = record { used = u; store = s; is = refl; good = G; steps = stop; spent = inl (refl, refl); least = λ r l e. absurd (omega arith) }
  free_below_lem (suc m) h = free_one m h (release_below idle m (at w a u s c q)) (free_below_lem m (omega arith))

-- a record in use with none missing is among those released
spends : {w : Window} {a u : ℕ} {s : Store} {c q m : ℕ} {y : State} (f : Freed w a u s c q m y) (r : ℕ) → r < m → is_in_use w s r ≡ true
    → length (missing_at w s r) ≡ 0 → f.used < u
spends {w} {s = s} f r h used empty =
    ⊎_elim (λ z. absurd (let b : 1 ≤ length (missing_at w s r) = subst (λ t. 1 ≤ length (missing_at w t r)) z.0 (f.least r h (ap (λ t. is_in_use w t r) z.0 ∙ used)) in omega arith)) (λ z. z) f.spent

-- no record is ready, so of no check in hand exactly one member is missing
at_rest : {w : Window} {a u : ℕ} {s : Store} (c q : ℕ) → Good w a u s → next (at w a u s c q) ≡ none → Still (code w) (view w s)
unfolding next
at_rest {w} {a} {u} {s} c q G e k v h one =
    true≢false (sym (is-ready h.at h.used (sym (held-count G h) ∙ one)) ∙ unpicked (at w a u s c q) (rows w) e h.at h.below)
  where
    is-ready : (r : ℕ) → is_in_use w s r ≡ true → length (missing_at w s r) ≡ 1 → ready (at w a u s c q) r ≡ true
    is-ready r p z = rw (p, eq-eqb (length (missing_at w s r)) 1 z)

-- a round by record r, of whose group one packet is missing
module _ {w : Window} {a u : ℕ} {s : Store} (G : Good w a u s) (r : ℕ) (hr : r < rows w) (used : is_in_use w s r ≡ true) (one : length (missing_at w s r) ≡ 1) where
  -- the check that it holds
  abbrev k : ℕ × ℕ
  k = check_at s r

  -- what it carries
  abbrev v : Recovery
  v = recovery_at w s r

  -- its missing packet
  abbrev i : ℕ
  i = head_or 0 (missing_at w s r)

  -- and the others of its group
  solves : Solved w s (group_at w s r) v.content i
  solves = solved w s (group_at w s r) (member-lt (G.shaped r hr used)) v.content (recovery_whole w s r) i (single (missing_at w s r) one)

  -- the check is in hand
  in_hand : Held w s k v
  in_hand = record { at = r; below = hr; used = used; names = refl; carries = refl }

  -- what it gives fits: it rebuilds
  round-rebuilds : {b : ℕ} (c q : ℕ) → a ≡ b + c → fits_at (at w a u s c q) r ≡ true → Round w b (at w a u s c q) (release_all (rebuild_by r (at w a u s c q)))
  unfolding release_all rebuild
  round-rebuilds {b} c q rise ok = subst (Round w b (at w a u s c q)) (sym f.is) (record {
    after = record {
      present = a + 1;
      used = f.used;
      store = f.store;
      count = c + 1;
      spoilt = q;
      is = refl;
      good = f.good;
      least = record { least = f.least };
      rise = omega arith;
    };
    steps = go_on (step_rebuild k v i solves G big ok (Held w s) in_hand (λ l x h. h) (λ l x h. inl h)) f.steps;
    work = inr (spends f r hr used empty, omega arith);
    clear = inl refl;
  })
    where
      big : good_length w.p v.size ≡ true
      big = G.sized r hr used

      t : Store
      t = rebuilt_in w s (group_at w s r) v.content i

      f : Freed w (a + 1) u t (c + 1) q (rows w) (release_below idle (rows w) (at w (a + 1) u t (c + 1) q))
      f = free_below_lem (rebuild-good k v i solves G big ok) (c + 1) q (rows w) (omega arith)

      empty : length (missing_at w t r) ≡ 0
      empty = sym (miss-count w t (group_at w s r) (member-lt (G.shaped r hr used))) ∙ count_none (miss (view w t)) (group_at w s r) (rebuild-full k v i solves G big ok)

  -- what it gives does not fit: it is let go
  round-spoilt : {b : ℕ} (c q : ℕ) → a ≡ b + c → Missing 1 w s → fits_at (at w a u s c q) r ≡ false → Round w b (at w a u s c q) (count_spoilt (release r (at w a u s c q)))
  round-spoilt {b} c q rise K bad = record {
    after = record {
      present = a;
      used = u - 1;
      store = freed w s r;
      count = c;
      spoilt = q + 1;
      is = refl;
      good = freed-good G r hr used;
      least = record { least = λ p h e. let z = freed-same G r hr used p (freed-other G r hr used p e) in rw z (K.least p h (rw z at e)) };
      rise = rise;
    };
    steps = go_on (step_free G r hr used (inr spoilt)) stop;
    work = inr (freed-fewer G r hr used, omega arith);
    clear = inr (k, v, spoilt);
  }
    where
      spoilt : Spoilt (code w) (view w s) k v
      spoilt = spoilt-by k v i solves (Held w s) in_hand bad

-- a round from a state in its normal form
round-at : {w : Window} {a u : ℕ} {s : Store} {b : ℕ} (c q : ℕ) → Good w a u s → Missing 1 w s → a ≡ b + c → Round w b (at w a u s c q) (round (at w a u s c q))
unfolding round next
round-at {w} {a} {u} {s} {b} c q G k rise = go (next (at w a u s c q)) refl
  where
    x : State
    x = at w a u s c q

    go : (o : Option ℕ) → next x ≡ o → Round w b x (round_by o x)
    go none e = record {
      after = record { present = a; used = u; store = s; count = c; spoilt = q; is = refl; good = G; least = k; rise = rise };
      steps = stop;
      work = inl (refl, at_rest c q G e);
      clear = inl refl;
    }
    go (some r) e = by (fits_at x r) refl
      where
        p : Picked x (rows w) r
        p = picked x (rows w) r e

        ready-now : (is_in_use w s r ≡ true) × (eqb (length (missing_at w s r)) 1 ≡ true)
        ready-now = both (is_in_use w s r) (eqb (length (missing_at w s r)) 1) p.is-ready

        one : length (missing_at w s r) ≡ 1
        one = eqb-true (length (missing_at w s r)) 1 ready-now.1

        by : (d : Bool) → fits_at x r ≡ d → Round w b x (cond d (release_all (rebuild_by r x)) (count_spoilt (release r x)))
        by true ok = round-rebuilds G r p.below ready-now.0 one c q rise ok
        by false bad = round-spoilt G r p.below ready-now.0 one c q rise k bad

-- a round
pub one-round : {w : Window} {b : ℕ} {y : State} → Working w b y → Round w b y (round y)
one-round {w} {b} h = subst (λ y. Round w b y (round y)) (sym h.is) (round-at h.count h.spoilt h.good h.least h.rise)

-- ---- the engine
-- rounds as an engine of the theory: a round needs and keeps a working state, spends records in use, and rebuilds packets or finds checks spoilt
abbrev pub engine : (w : Window) (b : ℕ) → Engine (code w) State
engine w b = record {
  see = λ y. view w y.store;
  fit = Working w b;
  one = round;
  left = λ y. y.window.in_use;
  did = done_by;
  spoilt = λ y. y.spoilt;
  keeps = λ y h. (one-round h).after;
  steps = λ y h. (one-round h).steps;
  work = λ y h. (one-round h).work;
  clear = λ y h. (one-round h).clear;
}
