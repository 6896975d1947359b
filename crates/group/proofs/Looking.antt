-- A look in two stretches, each up to a member that is missing: what is passed, one member more, and what was found. Assumes nothing.
use Rattle.std.proofs.Common.{◌≡◌, refl, sym, ap, ◌∙◌, false, List, [], ◌∷◌, ◌++◌, map, ⊎_elim, ℕ, zero, suc, ◌+◌, ◌<◌, ◌≤◌, eq-or-lt_of_le, add-one, arith, length, drop, drop_of_length-le, drop_at}
use Rattle.std.proofs.lemmas.List.{length-map, drop-append-le}
use Rattle.sequence.specs.Lists.{up_to}
use Rattle.sequence.proofs.Lists.{map-append, length-up_to}
use Rattle.window.specs.declared.Look.TheVariants.{None, One, More}
use Rattle.window.specs.Group.{is_missing, missing}
use Rattle.window.specs.Look.{to_first, to_second, look}
use Rattle.group.specs.Along.{member_at, along, rest, Passed, Next}

-- ---- the members that are left
module _ (f : ℕ → ℕ) where
  -- the members of a line as far as n, the last one apart
  line-more : (n : ℕ) → map f (up_to (suc n)) ≡ map f (up_to n) ++ (f n ∷ [])
  line-more n = map-append f (up_to n) (n ∷ [])

  line-length : (n : ℕ) → length (map f (up_to n)) ≡ n
  line-length n = length-map (up_to n) f ∙ length-up_to n

  -- member j is the first that is left
  left-more : (n j : ℕ) → j < n → drop j (map f (up_to n)) ≡ f j ∷ drop (suc j) (map f (up_to n))
  left-more zero j l = absurd (omega (arith, l))
  left-more (suc n) j l = ⊎_elim last (λ h. before h (left-more n j h)) (eq-or-lt_of_le {n = j} {m = n} (omega arith))
    where
      last : j ≡ n → drop j (map f (up_to (suc n))) ≡ f j ∷ drop (suc j) (map f (up_to (suc n)))
      last e =
          rw (e, drop_of_length-le (map f (up_to (suc n))) {i = suc n} (omega (arith, line-length (suc n))), line-more n)
          (drop_at (map f (up_to n)) (f n ∷ []) n (line-length n))

      before : j < n → drop j (map f (up_to n)) ≡ f j ∷ drop (suc j) (map f (up_to n)) → drop j (map f (up_to (suc n))) ≡ f j ∷ drop (suc j) (map f (up_to (suc n)))
      before h e =
          rw (line-more n, drop-append-le j (map f (up_to n)) (f n ∷ []) (omega (arith, line-length n)), drop-append-le (suc j) (map f (up_to n)) (f n ∷ []) (omega (arith, line-length n)), e)

  -- behind the last none is left
  left-none : (n j : ℕ) → n ≤ j → drop j (map f (up_to n)) ≡ []
  left-none n j h = drop_of_length-le (map f (up_to n)) {i = j} (omega (arith, line-length n))

-- ---- what is found of them
module _ (marks : List ℕ) (base snbase offset na : ℕ) where
  abbrev left : ℕ → List ℕ
  left j = rest base snbase offset na j

  abbrev at : ℕ → ℕ
  at j = member_at base snbase offset j

  pub passed_none : (from : ℕ) → from ≤ na → Passed marks base snbase offset na from from
  passed_none from h = record { start = omega arith; end = h; same-missing = refl; to_the_first = refl; to_the_second = refl }

  -- one member more
  pub passed-more : (from j : ℕ) → j < na → is_missing marks (at j) ≡ false → Passed marks base snbase offset na from j → Passed marks base snbase offset na from (j + 1)
  passed-more from j l e p =
      let d : left j ≡ at j ∷ left (j + 1) = rw (add-one j) (left-more at na j l) in
      record {
        start = omega (arith, p.start);
        end = omega arith;
        same-missing = p.same-missing ∙ ap (missing marks) d ∙ rw e;
        to_the_first = p.to_the_first ∙ ap (λ (g : List ℕ). j + to_first marks g) d ∙ rw e (omega arith);
        to_the_second = p.to_the_second ∙ ap (λ (g : List ℕ). j + to_second marks g) d ∙ rw e (omega arith);
      }

  none_left : left na ≡ []
  none_left = left-none at na na (omega arith)

  -- none was missing
  pub found_none : Passed marks base snbase offset na 0 na → None na ≡ look marks (along base snbase offset na)
  found_none h =
      let m : missing marks (left 0) ≡ [] = h.same-missing ∙ ap (missing marks) none_left in
      let t : to_second marks (left 0) ≡ na = let e = h.to_the_second ∙ ap (λ (g : List ℕ). na + to_second marks g) none_left in omega (arith, e) in
      sym (rw (m, t))

  -- one was: the member at index `first`
  module _ (first : ℕ) (l : first < na) (h : Next marks base snbase offset na 0 first) where
    apart : left first ≡ at first ∷ left (first + 1)
    apart = rw (add-one first) (left-more at na first l)

    missing-from : missing marks (left 0) ≡ at first ∷ missing marks (left (first + 1))
    missing-from = h.passed.same-missing ∙ ap (missing marks) apart ∙ rw (h.here l)

    second_from : to_second marks (left 0) ≡ first + 1 + to_first marks (left (first + 1))
    second_from =
        let e : first + to_second marks (left first) ≡ first + suc (to_first marks (left (first + 1))) = ap (λ (g : List ℕ). first + to_second marks g) apart ∙ rw (h.here l) in
        omega (arith, h.passed.to_the_second, e)

    -- and no other
    pub found-one : Passed marks base snbase offset na (first + 1) na → (i : ℕ) → i ≡ at first → One i na ≡ look marks (along base snbase offset na)
    found-one n i e =
        let m : missing marks (left 0) ≡ at first ∷ [] = missing-from ∙ ap (λ (g : List ℕ). at first ∷ g) (n.same-missing ∙ ap (missing marks) none_left) in
        let f = n.to_the_first ∙ ap (λ (g : List ℕ). na + to_first marks g) none_left in
        let t : to_second marks (left 0) ≡ na = omega (arith, second_from, f) in
        sym (rw (m, t, e))

    -- and another one
    pub found-more : (second : ℕ) → Next marks base snbase offset na (first + 1) second → second < na → More (second + 1) ≡ look marks (along base snbase offset na)
    found-more second n k =
        let d : left second ≡ at second ∷ left (second + 1) = rw (add-one second) (left-more at na second k) in
        let m : missing marks (left 0) ≡ at first ∷ at second ∷ missing marks (left (second + 1)) = missing-from ∙ ap (λ (g : List ℕ). at first ∷ g) (n.passed.same-missing ∙ ap (missing marks) d ∙ rw (n.here k)) in
        let f : to_first marks (left second) ≡ 1 = ap (to_first marks) d ∙ rw (n.here k) in
        let t : to_second marks (left 0) ≡ second + 1 = omega (arith, second_from, n.passed.to_the_first, f) in
        sym (rw (m, t))
