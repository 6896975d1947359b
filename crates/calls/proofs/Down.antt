-- Laws of a move: a part whose first n elements move down by m, and the slots of what leaves. Assumes nothing.
use Rattle.std.specs.Prelude.{◌≡◌, List, ◌++◌, ℕ, zero, suc, ◌+◌, ◌*◌, ◌-◌, ◌<◌, ◌≤◌, length, get_or, take, drop, replicate}
use Rattle.std.proofs.Common.{sym, ap, ◌∙◌, suc-mul, arith, length-append, length-drop, length-take-le, get_or-append-add, get_or-take, get_or-drop}
use Rattle.std.proofs.lemmas.List.{length-replicate, get_or-replicate}
use Rattle.std.proofs.Math.ListN.{get_or-append}
use Rattle.xor.specs.Xor.{padded}
use Rattle.xor.specs.Padded.{length-padded}
use Rattle.window.specs.declared.Window.{Window}
use Rattle.window.specs.Store.{Store}
use Rattle.calls.specs.Move.{slot_size, leaving, leaving_slots, moved_down}

module _ (m n : ℕ) (part : List ℕ) (hm : m ≤ n) (hn : n ≤ length part) where
  -- what moves
  abbrev pub kept : List ℕ
  kept = take (n - m) (drop m part)

  -- that is n - m elements
  pub length-kept : length kept ≡ n - m
  length-kept = length-take-le (n - m) (drop m part) (omega (arith, length-drop m part))

  -- the part is as long as it was
  pub length_moved : length (moved_down m n part) ≡ length part
  length_moved = omega (arith, length-append (kept ++ replicate m 0) (drop n part), length-append kept (replicate m 0), length-kept, length-replicate {A = ℕ} m 0, length-drop n part)

  -- an element that moved
  pub moved_at : (i : ℕ) → i < n - m → get_or (moved_down m n part) i 0 ≡ get_or part (m + i) 0
  moved_at i h =
      get_or-append (kept ++ replicate m 0) (drop n part) 0 i (omega (arith, length-append kept (replicate m 0), length-kept))
      ∙ get_or-append kept (replicate m 0) 0 i (omega (arith, length-kept)) ∙ get_or-take (n - m) (drop m part) i 0 h ∙ get_or-drop m part i 0

  -- a new one
  pub moved_new : (i : ℕ) → i < m → get_or (moved_down m n part) (n - m + i) 0 ≡ 0
  moved_new i h =
      get_or-append (kept ++ replicate m 0) (drop n part) 0 (n - m + i) (omega (arith, length-append kept (replicate m 0), length-kept, length-replicate {A = ℕ} m 0))
      ∙ ap (λ k. get_or (kept ++ replicate m 0) (k + i) 0) (sym length-kept) ∙ get_or-append-add kept (replicate m 0) i 0 ∙ get_or-replicate m i 0 0 h

-- the slots are one after the other
pub length-slots : (w : Window) (s : Store) (by : ℕ) → length (leaving_slots w s by) ≡ by * slot_size w
length-slots w s zero = omega arith
length-slots w s (suc i) =
    length-append (leaving_slots w s i) (padded (slot_size w) (leaving w s i))
    ∙ omega (arith, length-slots w s i, length-padded (slot_size w) (leaving w s i), suc-mul i (slot_size w))
