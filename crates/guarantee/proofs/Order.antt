-- What refusals 1 to 5 let pass, as facts, and back: a store in order (window's InOrder.antt) is one that satisfies View.antt's Good and Missing least_missing.
use Rattle.std.specs.Prelude.{◌≡◌, ◌||◌, [], ◌∷◌, ℕ, ◌^◌, ◌<◌, ltb}
use Rattle.std.proofs.Common.{sym, ◌∙◌}
use Rattle.answer.specs.First.{first, None, first-append, first-end, first-none, first-front}
use Rattle.window.specs.declared.Window.{Window}
use Rattle.window.specs.Limits.{width, set_up_tests}
use Rattle.window.specs.Bounds.{SetUp, set_up_good}
use Rattle.window.specs.Store.{Store, short_store}
use Rattle.window.specs.Order.{disorder}
use Rattle.calls.specs.State.{recount}
use Rattle.calls.specs.Call.{standing_tests}
use Rattle.calls.proofs.Standing.{standing-good}
use Rattle.guarantee.specs.View.{Limits}
use Rattle.guarantee.specs.Demand3.{Stretch}
use Rattle.guarantee.specs.Start.{Start}
use Rattle.guarantee.specs.Order.{Ordered, standing}

-- the limits do not speak of the counts
pub limits_of : (w : Window) (a u : ℕ) → w.base < 2 ^ width → SetUp (recount w a u) → Limits w
limits_of w a u h z = record {
  based = h;
  set_up = record { profile = z.profile; p-low = z.p-low; p-high = z.p-high; p-good = z.p-good; room = z.room; n-high = z.n-high; k-low = z.k-low; k-high = z.k-high };
}

-- refusals 1 to 3 do not apply
pub limits : (w : Window) → w.base < 2 ^ width → None (set_up_tests w) → Limits w
limits w h n = record { based = h; set_up = set_up_good w (first-append (set_up_tests w) [] n ∙ sym first-end) }

-- where refusals 1 to 5 do not apply, 1 to 3 do not
pub set_up_passes : (w : Window) (s : Store) → first (standing_tests w s 0 0) ≡ 0 → None (set_up_tests w)
set_up_passes w s e = first-none (set_up_tests w) (tt, (tt, (tt, tt))) (first-front (set_up_tests w) ((4, short_store w s || ltb 0 0) ∷ (5, disorder w s) ∷ []) e)

-- ---- a start
module _ {w : Window} {t : Stretch} {s : Store} (S : Start w t s) where
  -- its window value is within its limits
  pub start-limits : Limits w
  start-limits = limits w S.base-fits (set_up_passes w s S.passes)

  -- and its store is in order
  pub start-ordered : Ordered w w.present w.in_use s
  start-ordered = standing w w.present w.in_use s (standing-good w s 0 0 S.passes)
