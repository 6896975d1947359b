-- The parity packets in hand, scanned row by row. Assumes nothing.
use mathlib.Core.Path.{◌≡◌, ◌∙◌}
use mathlib.Core.List.{List}
use Prim.Native.Nat.{ℕ}
use lib.ListN.{length}
use Rattle.sequence.specs.Lists.{up_to, any}
use Rattle.window.specs.declared.Record.{Record}
use Rattle.window.specs.declared.Window.{Window}
use Rattle.window.specs.Store.{stored}
use Rattle.calls.specs.Call.{holds, holds_same}
use Rattle.table.specs.declared.Row.{Row}
use Rattle.table.specs.View.{slot_at, scatter}
use Rattle.table.specs.Apart.{Fits, get-scatter}
use Rattle.table.specs.Scans.{any-rows}
use Rattle.order.proofs.Agree.{any_same}
use Rattle.offer.specs.Rows.{row_holds, row_same}

module _ (w : Window) (stream : ℕ) where
  pub holds_rows : (b : ℕ) (media timestamps lengths marks parity : List ℕ) (hs : List Row) (t : List Record) (f : Fits t w.k hs)
      → any (holds w (stored media timestamps lengths marks parity (scatter hs t)) stream b) (up_to w.k) ≡ any (row_holds hs stream b) (up_to (length hs))
  holds_rows b media timestamps lengths marks parity hs t f =
      any-rows (holds w (stored media timestamps lengths marks parity (scatter hs t)) stream b) f (λ r l e. rw e)
      ∙ any_same (λ i. holds w (stored media timestamps lengths marks parity (scatter hs t)) stream b (slot_at hs i)) (row_holds hs stream b) (length hs) (λ i l. rw (get-scatter f.apart f.enough i l))

  pub same_rows : (g media timestamps lengths marks parity : List ℕ) (hs : List Row) (t : List Record) (f : Fits t w.k hs)
      → any (holds_same w (stored media timestamps lengths marks parity (scatter hs t)) stream g) (up_to w.k) ≡ any (row_same w.p parity hs stream g) (up_to (length hs))
  same_rows g media timestamps lengths marks parity hs t f =
      any-rows (holds_same w (stored media timestamps lengths marks parity (scatter hs t)) stream g) f (λ r l e. rw e)
      ∙ any_same (λ i. holds_same w (stored media timestamps lengths marks parity (scatter hs t)) stream g (slot_at hs i)) (row_same w.p parity hs stream g) (length hs) (λ i l. rw (get-scatter f.apart f.enough i l))
