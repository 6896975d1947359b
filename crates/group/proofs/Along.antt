-- The members one after another: each is the wrapping sum of the one before and Offset, and those of a group are its positions. Assumes nothing.
use Rattle.std.proofs.Common.{◌≡◌, sym, ap, ◌∙◌, Bool, true, false, cond, List, [], ◌∷◌, ◌++◌, append-nil, ℕ, ◌+◌, ◌*◌, ◌%◌, ◌^◌, ◌<◌, ◌≤◌, mod-eq_of_lt, add-one, arith, length, take, set, take-suc-set}
use Rattle.std.proofs.lemmas.Simd.{map-map}
use Rattle.sequence.specs.Lists.{up_to, keep}
use Rattle.sequence.proofs.Lists.{keep_append, map-append}
use Rattle.sequence.specs.Wrap.{ahead, member}
use Rattle.sequence.proofs.Wrap.{member-suc}
use Rattle.rtp.specs.Fec.{offset_of, na_of}
use Rattle.window.specs.declared.Window.{Window}
use Rattle.window.specs.Limits.{width, most_side}
use Rattle.window.specs.Bounds.{SetUp}
use Rattle.window.specs.Group.{group}
use Rattle.window.specs.Plain.{Inside, shape_of, member_below}
use Rattle.group.specs.Along.{member_at, along}

-- the first member is SNBase
pub member-first : (snbase offset : ℕ) → snbase < 2 ^ width → snbase ≡ member width snbase offset 0
member-first snbase offset h = let e : snbase + 0 * offset ≡ snbase = omega arith in sym (ap (λ (n : ℕ). n % 2 ^ width) e ∙ mod-eq_of_lt h)

-- and each next one by a wrapping add
pub member-next : (snbase offset j number next : ℕ) → number ≡ member width snbase offset j → next ≡ (number + offset) % 2 ^ width → next ≡ member width snbase offset (j + 1)
member-next snbase offset j number next e h = rw (add-one j) (h ∙ ap (λ (n : ℕ). (n + offset) % 2 ^ width) e ∙ sym (member-suc width snbase offset j))

-- the position worked out from it
pub place_is : (base snbase offset j number i : ℕ) → number ≡ member width snbase offset j → i ≡ ahead width base number → i ≡ member_at base snbase offset j
place_is base snbase offset j number i e h = h ∙ ap (ahead width base) e

-- one member more
pub along-more : (base snbase offset j : ℕ) → along base snbase offset (j + 1) ≡ along base snbase offset j ++ (member_at base snbase offset j ∷ [])
along-more base snbase offset j = rw add-one (map-append (member_at base snbase offset) (up_to j) (j ∷ []))

module _ (test : ℕ → Bool) (base snbase offset j : ℕ) (rows : List ℕ) (n i : ℕ) (e : i ≡ member_at base snbase offset j) (h : take n rows ≡ keep test (along base snbase offset j)) where
  kept : keep test (along base snbase offset (j + 1)) ≡ take n rows ++ cond (test i) (i ∷ []) []
  kept = rw (along-more base snbase offset j, keep_append test (along base snbase offset j) (member_at base snbase offset j ∷ []), h, e)

  pub one_kept : n < length rows → test i ≡ true → take (n + 1) (set rows n i) ≡ keep test (along base snbase offset (j + 1))
  one_kept l t = rw (add-one n, take-suc-set rows n i) (sym (kept ∙ rw t))

  pub none_kept : test i ≡ false → take n rows ≡ keep test (along base snbase offset (j + 1))
  none_kept t = sym (kept ∙ rw t (append-nil (take n rows)))

-- ---- the members of a group inside a window, its step and size as the code has them
module _ (w : Window) (based : w.base < 2 ^ width) (u : SetUp w) (stream snbase : ℕ) (inside : Inside w stream snbase) (offset na : ℕ) (eo : offset ≡ offset_of stream w.l) (en : na ≡ na_of stream w.l w.d) where
  pub along-below : (j : ℕ) → j < na → member_at w.base snbase offset j < w.n
  along-below j h = rw eo (member_below w based u stream snbase inside j (rw en at h))

  pub along-asked : (marks : List ℕ) → w.n ≤ length marks → (na ≤ most_side) × ((j : ℕ) → j < na → member_at w.base snbase offset j < length marks)
  along-asked marks h = (omega (arith, (shape_of w.l w.d stream u.profile).na-high), λ j k. omega (arith, along-below j k))

  pub along-group : along w.base snbase offset na ≡ group w stream snbase
  along-group = rw (eo, en) (sym (map-map (ahead width w.base) (member width snbase (offset_of stream w.l)) (up_to (na_of stream w.l w.d))))
