-- A window value whose base moved on, and a store whose positions moved down (calls' Move.antt): positions, groups, marks and contents.
use Rattle.std.specs.Prelude.{◌≡◌, refl, false, List, [], ◌∷◌, ◌++◌, map, ℕ, zero, suc, ◌+◌, ◌*◌, ◌-◌, ◌^◌, ◌<◌, ◌≤◌, ltb, length, take, drop, replicate}
use Rattle.std.proofs.Common.{sym, ap, ◌∙◌, append_assoc, add-mul, mul-le-mul_right, arith, length-drop, take-take, drop-drop, ltb-false}
use Rattle.std.proofs.lemmas.List.{length-replicate, take-append-le, drop-append-le}
use Rattle.std.proofs.Math.Seq.{drop-append-add}
use Rattle.xor.specs.Xor.{padded}
use Rattle.sequence.specs.Lists.{any}
use Rattle.sequence.proofs.Lists.{or_split}
use Rattle.sequence.specs.Wrap.{ahead, number_at}
use Rattle.sequence.proofs.Wrap.{ahead-onward}
use Rattle.window.specs.Store.{payload_in}
use Rattle.calls.specs.Move.{moved_down}
use Rattle.calls.proofs.Down.{length-kept}
use Rattle.xor.specs.Parts.{take-drop}
use Rattle.xor.specs.Parts.{part_fits}
use Rattle.guarantee.proofs.Parts.{by_front}
use Rattle.guarantee.specs.Shift.{zeros}

-- a run of zeros among zeros
zeros-run : (at size m : ℕ) → at + size ≤ m → take size (drop at (zeros m)) ≡ zeros size
zeros-run zero zero m h = refl
zeros-run zero (suc size) zero h = absurd (omega arith)
zeros-run zero (suc size) (suc m) h = ap (λ l. 0 ∷ l) (zeros-run zero size m (omega arith))
zeros-run (suc at) size zero h = absurd (omega arith)
zeros-run (suc at) size (suc m) h = zeros-run at size m (omega arith)

module _ (m n : ℕ) (part : List ℕ) (hm : m ≤ n) (hn : n ≤ length part) where
  -- what moves
  abbrev kept : List ℕ
  kept = take (n - m) (drop m part)

  -- a run of elements that moved
  pub moved-run : (at size : ℕ) → at + size ≤ n - m → take size (drop at (moved_down m n part)) ≡ take size (drop (m + at) part)
  moved-run at size h =
      let k = length-kept m n part hm hn in
      let e : moved_down m n part ≡ kept ++ (replicate m 0 ++ drop n part) = append_assoc kept (replicate m 0) (drop n part) in
      ap (λ l. take size (drop at l)) e ∙ ap (take size) (drop-append-le at kept (replicate m 0 ++ drop n part) (omega arith))
      ∙ take-append-le size (drop at kept) (replicate m 0 ++ drop n part) (omega (arith, length-drop at kept)) ∙ take-drop at size kept
      ∙ ap (drop at) (take-take (at + size) (n - m) (drop m part) h) ∙ sym (take-drop at size (drop m part)) ∙ ap (take size) (drop-drop at m part)

  -- a run of new ones
  pub moved-zeros : (at size : ℕ) → at + size ≤ m → take size (drop (n - m + at) (moved_down m n part)) ≡ zeros size
  moved-zeros at size h =
      let k = length-kept m n part hm hn in
      let z = length-replicate {A = ℕ} m 0 in
      ap (λ l. take size (drop (n - m + at) l)) (append_assoc kept (zeros m) (drop n part)) ∙ ap (λ j. take size (drop (j + at) (kept ++ (zeros m ++ drop n part)))) (sym k)
      ∙ ap (take size) (drop-append-add kept (zeros m ++ drop n part) at ∙ drop-append-le at (zeros m) (drop n part) (omega arith))
      ∙ take-append-le size (drop at (zeros m)) (drop n part) (omega (arith, length-drop at (zeros m))) ∙ zeros-run at size m h

-- payloads of p bytes, one for each position
pub moved-payload : (by n p : ℕ) (part : List ℕ) → by ≤ n → n * p ≤ length part → (size i : ℕ) → i < n - by
    → payload_in p (moved_down (by * p) (n * p) part) size i ≡ payload_in p part size (by + i)
moved-payload by n p part hb hn size i h =
    let e : (by + i) * p ≡ by * p + i * p = add-mul by i p in
    let f : by * p ≤ n * p = mul-le-mul_right p hb in
    let g = part_fits (by + i) n p (omega arith) in
    let r = moved-run (by * p) (n * p) part f hn (i * p) p (omega arith) in
    by_front p size p (drop (i * p) (moved_down (by * p) (n * p) part)) ∙ ap (λ l. padded p (take size l)) (r ∙ ap (λ k. take p (drop k part)) (sym e))
    ∙ sym (by_front p size p (drop ((by + i) * p) part))

-- ---- the groups of a window whose base moved on
-- numbers that lie no less ahead of a base than that moves on
pub onward-all : (w base by : ℕ) → base ≤ 2 ^ w → (numbers : List ℕ) → any (λ i. ltb i by) (map (ahead w base) numbers) ≡ false
    → map (ahead w base) numbers ≡ map (λ i. by + i) (map (ahead w (number_at w base by)) numbers)
onward-all w base by h [] e = refl
onward-all w base by h (number ∷ numbers) e =
    let s = or_split (ltb (ahead w base number) by) (any (λ i. ltb i by) (map (ahead w base) numbers)) e in
    let head = ahead-onward w base by number h (ltb-false (ahead w base number) by s.0) in
    let tail = onward-all w base by h numbers s.1 in
    λ k. head k ∷ tail k
