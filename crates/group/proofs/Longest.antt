-- The longest of some rows. Assumes nothing.
use Rattle.std.proofs.Common.{◌≡◌, refl, sym, ap, ◌∙◌, Bool, true, false, cond, not, List, [], ◌∷◌, ◌++◌, map, ℕ, max, ◌+◌, ◌<◌, ◌≤◌, add-one, arith, length, get_or, take, take-suc}
use Rattle.std.proofs.Math.Nat.{max-le}
use Rattle.sequence.proofs.Lists.{map-append}
use Rattle.window.specs.Group.{is_missing, present}
use Rattle.calls.specs.Content.{longest}
use Rattle.group.specs.Held.{Below, Held}

max_last : (a b x : ℕ) → max a (max b x) ≡ max (max a b) x
max_last a b x = omega arith

longest-snoc : (l : List ℕ) (x : ℕ) → longest (l ++ (x ∷ [])) ≡ max (longest l) x
longest-snoc [] x = omega arith
longest-snoc (a ∷ l) x = ap (max a) (longest-snoc l x) ∙ max_last a (longest l) x

-- one row more
pub longest-more : (f : ℕ → ℕ) (rows : List ℕ) (i : ℕ) → i < length rows → max (longest (map f (take i rows))) (f (get_or rows i 0)) ≡ longest (map f (take (i + 1) rows))
longest-more f rows i h =
    sym
    (ap (λ (k : ℕ). longest (map f (take k rows))) (add-one i)
    ∙ ap (λ (l : List ℕ). longest (map f l)) (take-suc rows i 0 h)
    ∙ ap longest (map-append f (take i rows) (get_or rows i 0 ∷ []))
    ∙ longest-snoc (map f (take i rows)) (f (get_or rows i 0)))

-- none held of a list is longer than p, where no position present is
pub longest-held : (n p : ℕ) (f : ℕ → ℕ) (marks : List ℕ) → ((i : ℕ) → i < n → is_missing marks i ≡ false → f i ≤ p) → (l : List ℕ) → Below n l → longest (map f (present marks l)) ≤ p
longest-held n p f marks h [] b = omega arith
longest-held n p f marks h (i ∷ l) b = go (is_missing marks i) refl (longest-held n p f marks h l b.1)
  where
    go : (t : Bool) → is_missing marks i ≡ t → longest (map f (present marks l)) ≤ p → longest (map f (cond (not t) (i ∷ present marks l) (present marks l))) ≤ p
    go true e q = q
    go false e q = max-le (h i b.0 e) q

-- the longest of the rows that are held of a group is that of its members present, and no longer than p
pub longest_is : (n p : ℕ) (lengths marks these rows : List ℕ) (m most size : ℕ) → Held these marks n rows m → Below n these → ((i : ℕ) → i < n → is_missing marks i ≡ false → get_or lengths i 0 ≤ p)
    → size ≡ most → most ≡ longest (map (λ i. get_or lengths i 0) (take m rows))
    → (size ≡ longest (map (λ i. get_or lengths i 0) (present marks these))) × (size ≤ p)
longest_is n p lengths marks these rows m most size h below short es em =
    let e : size ≡ longest (map (λ i. get_or lengths i 0) (present marks these)) = es ∙ em ∙ ap (λ (l : List ℕ). longest (map (λ i. get_or lengths i 0) l)) h.are in
    (e, rw e (longest-held n p (λ i. get_or lengths i 0) marks short these below))
