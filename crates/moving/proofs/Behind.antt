-- The rows that begin behind the new base set free are the records released whose group has a member there, of every table that the hand is
-- apart from. Assumes nothing.
use mathlib.Core.Path.{◌≡◌, refl, sym, ap, ◌∙◌}
use mathlib.Core.Bool.{Bool, true, false, ◌&&◌}
use mathlib.Core.List.{List}
use Prim.Native.Nat.{ℕ, ◌+◌, ◌*◌, ◌^◌, ◌<◌, ◌≤◌}
use native.Mathlib.Omega.{arith}
use lib.Dec.{ltb}
use lib.ListN.{length}
use borrow.Author.Tests.{lt-ltb, le-ltb, ltb-true, ltb-false}
use Rattle.sequence.specs.Lists.{up_to, any}
use Rattle.sequence.proofs.Lists.{any-map, any_false, false-any}
use Rattle.sequence.specs.Line.{line}
use Rattle.rtp.specs.Fec.{offset_of, na_of}
use Rattle.window.specs.declared.Record.{Record}
use Rattle.window.specs.declared.Window.{Window}
use Rattle.window.specs.Limits.{width}
use Rattle.window.specs.Bounds.{SetUp}
use Rattle.window.specs.Group.{position, group}
use Rattle.window.specs.Order.{used}
use Rattle.window.specs.Plain.{Inside, shape_of, group_plain}
use Rattle.window.specs.Store.{stored}
use Rattle.calls.specs.State.{scene}
use Rattle.calls.specs.Call.{begun}
use Rattle.calls.specs.Move.{behind, release_behind}
use Rattle.table.specs.declared.Row.{Row}
use Rattle.table.specs.View.{slot_at, it_at, scatter}
use Rattle.table.specs.Apart.{Fits, same_length}
use Rattle.table.specs.Sound.{Sound}
use Rattle.engine.specs.Rows.{Desk, free_below}
use Rattle.engine.proofs.Free.{desk, first_holds, Keeps, keeps-all, row_record, free-each}
use Rattle.moving.specs.Rows.{row_behind}

-- some place of a line lies below a number where the first one does
line-below : (at offset na by : ℕ) → 0 < na → any (λ i. ltb i by) (line at offset na) ≡ ltb at by
line-below at offset na by pos = any-map (λ i. ltb i by) (λ j. at + j * offset) (up_to na) ∙ go (ltb at by) refl
  where
    low : ℕ → Bool
    low j = ltb (at + j * offset) by

    some : (b : Bool) → any low (up_to na) ≡ b → at < by → b ≡ true
    some true e h = refl
    some false e h = sym (any_false low na e 0 pos) ∙ lt-ltb (at + 0 * offset) by (omega arith)

    go : (b : Bool) → ltb at by ≡ b → any low (up_to na) ≡ b
    go true e = some (any low (up_to na)) refl (ltb-true at by e)
    go false e = false-any low na (λ j l. le-ltb (at + j * offset) by (let q = ltb-false at by e in omega arith))

module _ (w : Window) (based : w.base < 2 ^ width) (u : SetUp w) (by : ℕ) where
  -- a group that lies in the window has a member behind where it begins there
  group-behind : (stream snbase : ℕ) → Inside w stream snbase → any (λ i. ltb i by) (group w stream snbase) ≡ ltb (position w snbase) by
  group-behind stream snbase i =
      ap (any (λ i. ltb i by)) (group_plain w based u stream snbase i)
      ∙ line-below (position w snbase) (offset_of stream w.l) (na_of stream w.l w.d) by (shape_of w.l w.d stream u.profile).na-low

  behind-used : (gs : List Row) (i : ℕ) → row_behind w.base by gs i ≡ true → used (it_at gs i) ≡ true
  behind-used gs i e = first_holds (used (it_at gs i)) (ltb (position w (it_at gs i).snbase) by) e

  module _ (marks : List ℕ) (hs : List Row) (s : Sound w marks hs) (parity : List ℕ) (room : w.k * w.p ≤ length parity) where
    start : Keeps w marks (length parity) hs (desk w parity hs)
    start = record { same = refl; present = refl; same-slots = refl; long = refl; sound = s }

    kept : Keeps w marks (length parity) hs (free_below (row_behind w.base by) (length hs) (desk w parity hs))
    kept = keeps-all w marks hs (length parity) room (row_behind w.base by) behind-used (desk w parity hs) (length hs) (omega arith) start

    module _ (media timestamps lengths : List ℕ) (t : List Record) (f : Fits t w.k hs) where
      agree : (d : Desk) → Keeps w marks (length parity) hs d → (i : ℕ) → i < length hs
          → behind by (scene d.window (stored media timestamps lengths marks d.parity (scatter d.rows t)) 0 0) (slot_at hs i) ≡ row_behind w.base by d.rows i
      agree d k i l = rw (row_record w marks hs (length parity) room media timestamps lengths t f 0 0 d k i l, k.same) (go (omega (arith, l, same_length hs d.rows k.same-slots)) (used (it_at d.rows i)) refl)
        where
          go : i < length d.rows → (b : Bool) → used (it_at d.rows i) ≡ b
              → (b && any (λ j. ltb j by) (group w (it_at d.rows i).stream (it_at d.rows i).snbase)) ≡ (b && ltb (position w (it_at d.rows i).snbase) by)
          go n true e = group-behind (it_at d.rows i).stream (it_at d.rows i).snbase (k.sound.at i n e).inside
          go n false e = refl

      -- the rows set free are the records released
      pub released : (v : Window) (parity' : List ℕ) (hs' : List Row) → desk v parity' hs' ≡ free_below (row_behind w.base by) (length hs) (desk w parity hs)
          → scene v (stored media timestamps lengths marks parity' (scatter hs' t)) 0 0 ≡ release_behind by (begun w (stored media timestamps lengths marks parity (scatter hs t)))
      unfolding release_behind
      released v parity' hs' e =
          ap (λ (d : Desk). scene d.window (stored media timestamps lengths marks d.parity (scatter d.rows t)) 0 0) e
          ∙ free-each w marks hs (length parity) room media timestamps lengths t f 0 0 (row_behind w.base by) behind-used (behind by) (λ r x z. rw z) agree parity w refl start

    -- each row keeps its slot
    pub slots_kept : (v : Window) (parity' : List ℕ) (hs' : List Row) → desk v parity' hs' ≡ free_below (row_behind w.base by) (length hs) (desk w parity hs) → Keeps w marks (length parity) hs (desk v parity' hs')
    slots_kept v parity' hs' e = rw e kept
