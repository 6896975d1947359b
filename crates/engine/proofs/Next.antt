-- The row that is next is at the slot of the record that is next. Assumes nothing.
use mathlib.Core.Path.{◌≡◌, refl, sym, ap, subst, ◌∙◌}
use mathlib.Core.Bool.{Bool, true, false, cond, not, ◌&&◌, ◌||◌}
use mathlib.Core.List.{List}
use mathlib.Core.Option.{none, some}
use mathlib.Core.Option as state
use Rattle.std.specs.Prelude.{Option, Some, None}
use Prim.Native.Nat.{ℕ, zero, suc, ◌+◌, ◌<◌, ◌≤◌}
use native.Mathlib.Numerals.{add-one}
use native.Mathlib.Omega.{arith}
use lib.Dec.{eqb, ltb}
use lib.ListN.{length}
use Rattle.sequence.proofs.Lists.{and_split}
use Rattle.window.specs.declared.Record.{Record}
use Rattle.window.specs.declared.Window.{Window}
use Rattle.window.specs.Store.{record_at}
use Rattle.window.specs.Group.{group, missing}
use Rattle.window.specs.Order.{used}
use Rattle.calls.specs.State.{State, scene}
use Rattle.calls.specs.Settle.{ready, rank, better, next_below, next}
use Rattle.table.specs.declared.Row.{Row}
use Rattle.table.specs.View.{slot_at, note_at, it_at, scatter}
use Rattle.table.specs.Note.{says_one, one-is}
use Rattle.table.specs.Apart.{Free, Fits, get-scatter, apart-scatter}
use Rattle.table.specs.Fold.{below, rows, steps}
use Rattle.table.specs.Sound.{Sound}
use Rattle.engine.specs.declared.Best.{Best}
use Rattle.engine.specs.Rows.{row_ready, row_rank, better_row, next_row, row_of, pick}
use Rattle.engine.specs.Round.{Parts, over}

-- ---- the loop: the best so far is the best of the rows passed

-- its rank is that of the row
abbrev pub Ranked : (base : ℕ) → List Row → Option Best → Type 0
Ranked base hs None = Unit
Ranked base hs (Some b) = b.rank ≡ row_rank base hs b.at

pub record Leads (base : ℕ) (hs : List Row) (i : ℕ) (b : Option Best) : Type 0 where
  pub is : next_row base hs i ≡ row_of b
  pub ranks : Ranked base hs b

pub leads_start : (base : ℕ) (hs : List Row) → Leads base hs 0 None
leads_start base hs = record { is = refl; ranks = tt }

pub leads_more : (base : ℕ) (hs : List Row) (i : ℕ) (b : Option Best) → Leads base hs i b → (b' : Option Best) (rank : ℕ) (ready : Bool) → ready ≡ row_ready hs i → rank ≡ row_rank base hs i → b' ≡ pick b i rank ready → Leads base hs (i + 1) b'
leads_more base hs i None h b' rank ready er ek eb = rw (eb, add-one i) (go ready (sym er))
  where
    go : (t : Bool) → row_ready hs i ≡ t → Leads base hs (suc i) (cond t (Some (record { at = i; rank = rank })) None)
    go true e = record { is = ap (better_row base hs i) h.is ∙ rw e; ranks = ek }
    go false e = record { is = ap (better_row base hs i) h.is ∙ rw e; ranks = tt }
leads_more base hs i (Some c) h b' rank ready er ek eb = rw (eb, add-one i) (go ready (ltb rank c.rank) (sym er) refl)
  where
    lower : ltb (row_rank base hs i) (row_rank base hs c.at) ≡ ltb rank c.rank
    lower = rw (← ek, ← h.ranks)

    go : (t r : Bool) → row_ready hs i ≡ t → ltb rank c.rank ≡ r → Leads base hs (suc i) (cond (t && r) (Some (record { at = i; rank = rank })) (Some c))
    go true true e f = record { is = ap (better_row base hs i) h.is ∙ rw (e, lower, f); ranks = ek }
    go true false e f = record { is = ap (better_row base hs i) h.is ∙ rw (e, lower, f); ranks = h.ranks }
    go false r e f = record { is = ap (better_row base hs i) h.is ∙ rw e; ranks = h.ranks }

-- ---- rows and records

-- a row's index as its slot
abbrev pub at_slot : List Row → Option ℕ → state.Option ℕ
at_slot hs None = none
at_slot hs (Some i) = some (slot_at hs i)

-- an index that is below a bound, if there is one
abbrev Under : ℕ → Option ℕ → Type 0
Under m None = Unit
Under m (Some i) = i < m

under_more : (m i : ℕ) (t : Bool) (o : Option ℕ) → i < m → Under m o → Under m (cond t (Some i) o)
under_more m i true o l h = l
under_more m i false o l h = h

module _ (base : ℕ) (hs : List Row) where
  next_under : (m i : ℕ) → i ≤ m → Under m (next_row base hs i)
  next_under m zero l = tt
  next_under m (suc i) l = go (next_row base hs i) (next_under m i (omega arith))
    where
      go : (o : Option ℕ) → Under m o → Under m (better_row base hs i o)
      go None h = under_more m i (row_ready hs i) None (omega arith) h
      go (Some q) h = under_more m i (row_ready hs i && ltb (row_rank base hs i) (row_rank base hs q)) (Some q) (omega arith) h

next_below-is : (x : State) (k : ℕ) → next_below x k ≡ below (better x) k none
next_below-is x zero = refl
next_below-is x (suc k) = ap (better x k) (next_below-is x k)

module _ (w : Window) (x : Parts) (s : Sound w x.marks x.rows) (t : List Record) (f : Fits t w.k x.rows) (b q₀ : ℕ) where
  abbrev it : State
  it = scene w (over x t) b q₀

  record_is : (i : ℕ) → i < length x.rows → record_at (over x t) (slot_at x.rows i) ≡ it_at x.rows i
  record_is i l = get-scatter f.apart f.enough i l

  ready-is : (i : ℕ) → i < length x.rows → ready it (slot_at x.rows i) ≡ row_ready x.rows i
  ready-is i l = rw (record_is i l) (go (used (it_at x.rows i)) refl)
    where
      go : (t : Bool) → used (it_at x.rows i) ≡ t → (t && eqb (length (missing x.marks (group w (it_at x.rows i).stream (it_at x.rows i).snbase))) 1) ≡ (t && says_one (note_at x.rows i))
      go true e = sym (ap says_one (s.at i l e).noted ∙ one-is x.marks (group w (it_at x.rows i).stream (it_at x.rows i).snbase))
      go false e = refl

  rank_is : (i : ℕ) → i < length x.rows → rank it (slot_at x.rows i) ≡ row_rank w.base x.rows i
  rank_is i l = rw (record_is i l)

  better-is : (i : ℕ) → i < length x.rows → (o : Option ℕ) → Under (length x.rows) o → better it (slot_at x.rows i) (at_slot x.rows o) ≡ at_slot x.rows (better_row w.base x.rows i o)
  better-is i l None h = rw (ready-is i l) (go (row_ready x.rows i))
    where
      go : (t : Bool) → cond t (some (slot_at x.rows i)) none ≡ at_slot x.rows (cond t (Some i) None)
      go true = refl
      go false = refl
  better-is i l (Some q) h = rw (ready-is i l, rank_is i l, rank_is q h) (go (row_ready x.rows i && ltb (row_rank w.base x.rows i) (row_rank w.base x.rows q)))
    where
      go : (t : Bool) → cond t (some (slot_at x.rows i)) (some (slot_at x.rows q)) ≡ at_slot x.rows (cond t (Some i) (Some q))
      go true = refl
      go false = refl

  passed : (i : ℕ) → i ≤ length x.rows → rows (better it) x.rows i none ≡ at_slot x.rows (next_row w.base x.rows i)
  passed zero l = refl
  passed (suc i) l = ap (better it (slot_at x.rows i)) (passed i (omega arith)) ∙ better-is i (omega arith) (next_row w.base x.rows i) (next_under w.base x.rows (length x.rows) i (omega arith))

  free-still : (r : ℕ) → Free (scatter x.rows t) r → (o : state.Option ℕ) → better it r o ≡ o
  free-still r e none = rw e
  free-still r e (some q) = rw e

  pub next-rows : next it ≡ at_slot x.rows (next_row w.base x.rows (length x.rows))
  unfolding next
  next-rows = next_below-is it w.k ∙ steps (better it) {t = scatter x.rows t} {k = w.k} (λ r l e. free-still r e) (apart-scatter f.apart) none ∙ passed (length x.rows) (omega arith)

-- ---- what was found
module _ (base : ℕ) (hs : List Row) where
  some_path : (a b : ℕ) → ◌≡◌ {A = Option ℕ} (Some a) (Some b) → a ≡ b
  some_path a b e = cc

  -- a row that was found is one of those looked at
  pub found_low : (m r : ℕ) → next_row base hs m ≡ Some r → r < m
  found_low m r e = subst (Under m) e (next_under base hs m m (omega arith))

  ready-below : (m r : ℕ) → next_row base hs m ≡ Some r → row_ready hs r ≡ true
  ready-below zero r e = let z : ◌≡◌ {A = ℕ} 0 1 = cc in absurd (omega arith)
  ready-below (suc m) r e = go (next_row base hs m) refl (ready-below m r) e
    where
      here : (t : Bool) (o : Option ℕ) → row_ready hs m ≡ t → (o ≡ Some r → row_ready hs r ≡ true) → cond t (Some m) o ≡ Some r → row_ready hs r ≡ true
      here true o et ih q = let z : m ≡ r = some_path m r q in ap (row_ready hs) (sym z) ∙ et
      here false o et ih q = ih q

      both : (q : ℕ) (t u : Bool) → row_ready hs m ≡ t → (◌≡◌ {A = Option ℕ} (Some q) (Some r) → row_ready hs r ≡ true) → cond (t && u) (Some m) (Some q) ≡ Some r → row_ready hs r ≡ true
      both q true true et ih p = here true (Some q) et ih p
      both q true false et ih p = ih p
      both q false u et ih p = here false (Some q) et ih p

      go : (o : Option ℕ) → next_row base hs m ≡ o → (next_row base hs m ≡ Some r → row_ready hs r ≡ true) → better_row base hs m o ≡ Some r → row_ready hs r ≡ true
      go None eo ih p = here (row_ready hs m) None refl (λ q. ih (eo ∙ q)) p
      go (Some q) eo ih p = both q (row_ready hs m) (ltb (row_rank base hs m) (row_rank base hs q)) refl (λ f. ih (eo ∙ f)) p

  -- and it is ready
  pub found-ready : (m r : ℕ) → next_row base hs m ≡ Some r → (used (it_at hs r) ≡ true) × (says_one (note_at hs r) ≡ true)
  found-ready m r e = and_split (used (it_at hs r)) (says_one (note_at hs r)) (ready-below m r e)
