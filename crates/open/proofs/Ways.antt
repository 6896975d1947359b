-- The ways through `opened`, and a store that is cleared part by part. Assumes nothing.
use mathlib.Core.Path.{◌≡◌, sym, ◌∙◌}
use mathlib.Core.Bool.{true, false}
use mathlib.Core.List.{List, [], ◌∷◌, ◌++◌}
use Prim.Native.Nat.{ℕ, ◌*◌, ◌≤◌}
use native.Mathlib.Omega.{arith}
use lib.ListN.{length, replicate, length-replicate}
use borrow.Author.Tests.{ne_eqb}
use Rattle.answer.specs.declared.Answer.TheVariants.{Done, Refused}
use Rattle.answer.specs.First.{first, first_hit, first_past, first-end, first-none, first_stops, first_goes}
use Rattle.window.specs.declared.Record.{Record}
use Rattle.window.specs.declared.Sizes.{Sizes}
use Rattle.window.specs.declared.Window.{Window}
use Rattle.window.specs.Record.{blank}
use Rattle.window.specs.Limits.{set_up_tests}
use Rattle.window.specs.Store.{Store, stored, short_sizes}
use Rattle.window.specs.Bounds.{Sized, sizes-good}
use Rattle.calls.specs.Call.{Outcome, no_window, cleared, open_tests, opened}

-- ---- the tests
module _ (w : Window) (z : Sizes) where
  -- refusals 1 to 3
  pub set_up-stops : (r : ℕ) → r ≡ first (set_up_tests w) → (r ≡ 0 → ⊥) → r ≡ first (set_up_tests w ++ ((4, short_sizes w z) ∷ []))
  set_up-stops r e h = e ∙ first_stops (set_up_tests w) ((4, short_sizes w z) ∷ []) (λ q. h (e ∙ q))

  -- refusal 4
  pub short-stops : (r : ℕ) → r ≡ first (set_up_tests w) → r ≡ 0 → short_sizes w z ≡ true → 4 ≡ first (set_up_tests w ++ ((4, short_sizes w z) ∷ []))
  short-stops r e q h = first_hit 4 (short_sizes w z) [] h ∙ first_goes (set_up_tests w) ((4, short_sizes w z) ∷ []) (tt, (tt, (tt, tt))) (sym e ∙ q)

  -- none of them
  pub none-stops : (r : ℕ) → r ≡ first (set_up_tests w) → r ≡ 0 → short_sizes w z ≡ false → 0 ≡ first (set_up_tests w ++ ((4, short_sizes w z) ∷ []))
  none-stops r e q h = first_past 0 4 (short_sizes w z) [] h first-end ∙ first_goes (set_up_tests w) ((4, short_sizes w z) ∷ []) (tt, (tt, (tt, tt))) (sym e ∙ q)

-- ---- opening

-- a refusal: the store as it was
abbrev pub no : ℕ → Store → Outcome
no r s = record { answer = Refused r; window = no_window; store = s }

-- the sizes of a store whose table has as many records as is said
abbrev pub sizes : (media timestamps lengths marks parity : List ℕ) → ℕ → Sizes
sizes media timestamps lengths marks parity len = record { media = length media; timestamps = length timestamps; lengths = length lengths; marks = length marks; parity = length parity; records = len }

module _ (w v : Window) (ew : w ≡ v) (media timestamps lengths marks parity : List ℕ) (len r : ℕ) (e : r ≡ first (set_up_tests w ++ ((4, short_sizes w (sizes media timestamps lengths marks parity len)) ∷ []))) where
  -- the store with a table
  abbrev pub lent : List Record → Store
  lent t = stored media timestamps lengths marks parity t

  -- the tests of the sizes are those of the store
  tests-are : (t : List Record) → length t ≡ len → r ≡ first (open_tests w (lent t))
  tests-are t h = rw h e

  -- where a test applies
  pub open_stops : (r ≡ 0 → ⊥) → (t : List Record) → length t ≡ len → no r (lent t) ≡ opened v (lent t)
  unfolding opened
  open_stops h t l = rw (← ew, ← tests-are t l, ne_eqb r 0 h)

  module _ (z : r ≡ 0) where
    -- what the tests leave known of a table
    sized : (t : List Record) → length t ≡ len → Sized w (lent t)
    sized t l = sizes-good w (lent t) (first-none (open_tests w (lent t)) (tt, (tt, (tt, (tt, tt)))) (sym (tests-are t l) ∙ z)).1.1.1.0

    -- what they leave known of each part
    pub open_long : (w.n * w.p ≤ length media) × (w.n ≤ length timestamps) × (w.n ≤ length lengths) × (w.n ≤ length marks) × (w.k * w.p ≤ length parity) × (w.k ≤ len)
    open_long =
        let l = length-replicate {A = Record} len blank in
        let s = sized (replicate len blank) l in
        (s.media-long, s.timestamps-long, s.lengths-long, s.marks-long, s.parity-long, omega (arith, s.records-long))

    -- where none applies
    pub open_done : (t : List Record) → length t ≡ len → (s : Store) → s ≡ cleared w (lent t) → record { answer = Done 0 0; window = w; store = s } ≡ opened v (lent t)
    unfolding opened
    open_done t l s q = rw (← ew, ← tests-are t l, z, q)
