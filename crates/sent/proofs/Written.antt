-- What the base writes for a group over a store that holds its packets is the sum of these packets, taken one after the other.
use Rattle.std.specs.Prelude.{◌≡◌, refl, List, [], ◌∷◌, ◌++◌, map, ℕ, zero, suc, ◌+◌, ◌*◌, ◌<◌, max, replicate}
use Rattle.std.proofs.Common.{sym, ◌∙◌, ap, ap₂, arith}
use Rattle.std.specs.Int.Bits.{bit_xor, xor_zero_l, xor_zero_r}
use Rattle.xor.specs.Xor.{zip_xor, xor_all, xor_payloads}
use Rattle.xor.specs.Laws.{xor_assoc, zip_assoc, zip_comm}
use Rattle.sequence.specs.Lists.{up_to}
use Rattle.sequence.proofs.Lists.{map-append}
use Rattle.sequence.specs.Wrap.{member}
use Rattle.rtp.specs.Fec.{offset_of, na_of}
use Rattle.window.specs.declared.Window.{Window}
use Rattle.window.specs.Limits.{width}
use Rattle.window.specs.Store.{Store, length_at}
use Rattle.window.specs.Group.{position, group}
use Rattle.calls.specs.Content.{Content, Recovery, content_at, longest, recovery_over}
use Rattle.calls.specs.Accept.{content_of}
use Rattle.sender.specs.Sums.{alone, together}
use Rattle.sent.specs.Sums.{over}
use Rattle.sent.specs.Room.{empty}
use Rattle.sent.specs.Written.{Holds}

map_snoc : {X : Type 0} (f : ℕ → X) (l : List ℕ) (i : ℕ) → map f (l ++ (i ∷ [])) ≡ map f l ++ (f i ∷ [])
map_snoc f [] i = refl
map_snoc f (j ∷ l) i = ap (λ r. f j ∷ r) (map_snoc f l i)

xor_all-snoc : (l : List ℕ) (a : ℕ) → xor_all (l ++ (a ∷ [])) ≡ bit_xor (xor_all l) a
xor_all-snoc [] a = xor_zero_r a ∙ sym (xor_zero_l a)
xor_all-snoc (b ∷ l) a = ap (bit_xor b) (xor_all-snoc l a) ∙ sym (xor_assoc b (xor_all l) a)

payloads-snoc : (p : ℕ) (l : List (List ℕ)) (a : List ℕ) → xor_payloads p (l ++ (a ∷ [])) ≡ zip_xor (xor_payloads p l) a
payloads-snoc p [] a = zip_comm a (replicate p 0)
payloads-snoc p (b ∷ l) a = ap (zip_xor b) (payloads-snoc p l a) ∙ sym (zip_assoc b (xor_payloads p l) a)

longest-snoc : (l : List ℕ) (a : ℕ) → longest (l ++ (a ∷ [])) ≡ max (longest l) a
longest-snoc [] a = omega arith
longest-snoc (b ∷ l) a = let e = longest-snoc l a in ap (max b) e ∙ omega arith

-- the recovery of some positions and one more
recovery_snoc : (w : Window) (s : Store) (l : List ℕ) (i : ℕ)
    → recovery_over w s (l ++ (i ∷ [])) ≡ together (recovery_over w s l) (record { content = content_at w s i; size = length_at s i })
recovery_snoc w s l i =
    let f : ℕ → Content = content_at w s in
    rw (
      map_snoc (λ j. (f j).timestamp) l i,
      xor_all-snoc (map (λ j. (f j).timestamp) l) (f i).timestamp,
      map_snoc (λ j. (f j).length) l i,
      xor_all-snoc (map (λ j. (f j).length) l) (f i).length,
      map_snoc (λ j. (f j).payload) l i,
      payloads-snoc w.p (map (λ j. (f j).payload) l) (f i).payload,
      longest-snoc (map (length_at s) l) (length_at s i),
    )

module _ (w : Window) (s : Store) (stream snbase start : ℕ) (g : ℕ → List ℕ) where
  members-sum : (n : ℕ) → ((j : ℕ) → j < n → content_at w s (position w (member width snbase (offset_of stream w.l) j)) ≡ content_of w.p (g (start + j * offset_of stream w.l)))
      → recovery_over w s (map (position w) (map (member width snbase (offset_of stream w.l)) (up_to n))) ≡ over together (empty w.p) (λ i. alone w.p (g i)) start (offset_of stream w.l) n
  members-sum zero h = refl
  members-sum (suc n) h =
      let m = member width snbase (offset_of stream w.l) in
      let e = h n (omega arith) in
      let i = position w (m n) in
      let one : ◌≡◌ {A = Recovery} (record { content = content_at w s i; size = length_at s i }) (alone w.p (g (start + n * offset_of stream w.l))) =
      ap (λ (c : Content). record { content = c; size = c.length }) e in
      ap (recovery_over w s) (ap (map (position w)) (map-append m (up_to n) (n ∷ [])) ∙ map-append (position w) (map m (up_to n)) (m n ∷ []))
      ∙ recovery_snoc w s (map (position w) (map m (up_to n))) i
      ∙ ap₂ together (members-sum n (λ j k. h j (omega arith))) one

  -- what is written of a group is the sum of its packets
  pub written-sum : Holds w s stream snbase start g
      → recovery_over w s (group w stream snbase) ≡ over together (empty w.p) (λ i. alone w.p (g i)) start (offset_of stream w.l) (na_of stream w.l w.d)
  written-sum h = members-sum (na_of stream w.l w.d) h
