-- How many members a look at a group visits, in the words of request 3: up to the second that is missing, or all. Assumes nothing.
use Rattle.std.specs.Prelude.{◌≡◌, refl, Bool, true, false, cond, List, [], ◌∷◌, ◌++◌, ℕ, suc, ◌+◌, length}
use Rattle.std.proofs.Common.{ap, ◌∙◌, arith}
use Rattle.std.proofs.lemmas.List.{length-map}
use Rattle.sequence.specs.Lists.{up_to}
use Rattle.sequence.proofs.Lists.{length-up_to}
use Rattle.sequence.specs.Wrap.{member, members}
use Rattle.rtp.specs.Fec.{offset_of, na_of}
use Rattle.window.specs.declared.Look.TheVariants.{None, One, More}
use Rattle.window.specs.declared.Window.{Window}
use Rattle.window.specs.Limits.{width}
use Rattle.window.specs.Group.{position, group, is_missing, missing}
use Rattle.window.specs.Look.{to_first, to_second, look}

-- a group has NA members
pub na-members : (w : Window) (stream snbase : ℕ) → length (group w stream snbase) ≡ na_of stream w.l w.d
na-members w stream snbase =
    let na = na_of stream w.l w.d in
    length-map (members width snbase (offset_of stream w.l) na) (position w) ∙ length-map (up_to na) (member width snbase (offset_of stream w.l)) ∙ length-up_to na

module _ (marks : List ℕ) where
  -- where none of some members is missing the first is held, and of the others none is missing
  held_first : (x : ℕ) (l : List ℕ) → missing marks (x ∷ l) ≡ [] → (is_missing marks x ≡ false) × (missing marks l ≡ [])
  held_first x l = go (is_missing marks x) refl
    where
      go : (t : Bool) → is_missing marks x ≡ t → cond t (x ∷ missing marks l) (missing marks l) ≡ [] → (is_missing marks x ≡ false) × (missing marks l ≡ [])
      go true e h = absurd (omega (arith, ap length h))
      go false e h = (e, h)

  -- members of which none is missing are passed
  first-behind : (l r : List ℕ) → missing marks l ≡ [] → to_first marks (l ++ r) ≡ length l + to_first marks r
  first-behind [] r h = omega arith
  first-behind (x ∷ l) r h = let s = held_first x l h in let e = first-behind l r s.1 in rw s.0 (omega (arith, e))

  second-behind : (l r : List ℕ) → missing marks l ≡ [] → to_second marks (l ++ r) ≡ length l + to_second marks r
  second-behind [] r h = omega arith
  second-behind (x ∷ l) r h = let s = held_first x l h in let e = second-behind l r s.1 in rw s.0 (omega (arith, e))

  missing-behind : (l r : List ℕ) → missing marks l ≡ [] → missing marks (l ++ r) ≡ missing marks r
  missing-behind [] r h = refl
  missing-behind (x ∷ l) r h = let s = held_first x l h in rw s.0 (missing-behind l r s.1)

  -- where two are missing as many members are visited as the index of the second and one more, whatever stands behind it
  pub visits_second : (before between after : List ℕ) (i j : ℕ) → missing marks before ≡ [] → is_missing marks i ≡ true → missing marks between ≡ [] → is_missing marks j ≡ true
      → look marks (before ++ (i ∷ (between ++ (j ∷ after)))) ≡ More (length before + 1 + length between + 1)
  visits_second before between after i j hb hi hm hj =
      let rest = between ++ (j ∷ after) in
      let f : to_first marks rest ≡ length between + 1 = first-behind between (j ∷ after) hm ∙ rw hj in
      let t : to_second marks (before ++ (i ∷ rest)) ≡ length before + 1 + length between + 1 = let e : to_second marks (i ∷ rest) ≡ suc (to_first marks rest) = rw hi in omega (arith, second-behind before (i ∷ rest) hb, e, f) in
      let m : missing marks (before ++ (i ∷ rest)) ≡ i ∷ (j ∷ missing marks after) = missing-behind before (i ∷ rest) hb ∙ rw hi (ap (λ (l : List ℕ). i ∷ l) (missing-behind between (j ∷ after) hm ∙ rw hj)) in
      rw (m, t)

  first-all : (g : List ℕ) → missing marks g ≡ [] → to_first marks g ≡ length g
  first-all [] h = refl
  first-all (x ∷ g) h = let s = held_first x g h in rw s.0 (ap suc (first-all g s.1))

  -- where none or one is missing all members are visited
  pub visits_all-none : (g : List ℕ) → missing marks g ≡ [] → look marks g ≡ None (length g)
  visits_all-none g h = rw (h, second_none g h)
    where
      second_none : (l : List ℕ) → missing marks l ≡ [] → to_second marks l ≡ length l
      second_none [] z = refl
      second_none (x ∷ l) z = let s = held_first x l z in rw s.0 (ap suc (second_none l s.1))

  pub visits_all-one : (before after : List ℕ) (i : ℕ) → missing marks before ≡ [] → is_missing marks i ≡ true → missing marks after ≡ [] → look marks (before ++ (i ∷ after)) ≡ One i (length before + 1 + length after)
  visits_all-one before after i hb hi ha =
      let e : to_second marks (i ∷ after) ≡ suc (length after) = rw hi (ap suc (first-all after ha)) in
      let t : to_second marks (before ++ (i ∷ after)) ≡ length before + 1 + length after = omega (arith, second-behind before (i ∷ after) hb, e) in
      let m : missing marks (before ++ (i ∷ after)) ≡ i ∷ [] = missing-behind before (i ∷ after) hb ∙ rw hi (ap (λ (l : List ℕ). i ∷ l) ha) in
      rw (m, t)

-- ---- run on a group of four
-- all held
pub four_held : look (1 ∷ 1 ∷ 1 ∷ 1 ∷ []) (0 ∷ 1 ∷ 2 ∷ 3 ∷ []) ≡ None 4
four_held = refl

-- the third missing
pub third_missing : look (1 ∷ 1 ∷ 0 ∷ 1 ∷ []) (0 ∷ 1 ∷ 2 ∷ 3 ∷ []) ≡ One 2 4
third_missing = refl

-- the first and the third missing: the last is not visited
pub third_is_second : look (0 ∷ 1 ∷ 0 ∷ 1 ∷ []) (0 ∷ 1 ∷ 2 ∷ 3 ∷ []) ≡ More 3
third_is_second = refl

-- all missing: two are visited
pub four_missing : look (0 ∷ 0 ∷ 0 ∷ 0 ∷ []) (0 ∷ 1 ∷ 2 ∷ 3 ∷ []) ≡ More 2
four_missing = refl
