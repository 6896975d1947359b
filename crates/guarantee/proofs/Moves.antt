-- What a call does, as moves of the theory: rebuilding by a check, letting go of a spent check, taking one into a free record.
use Rattle.std.specs.Prelude.{◌≡◌, refl, ◌≢◌, ◌⊎◌, Bool, true, false, not, ℕ, suc, ◌+◌, ◌-◌, ◌<◌, length, replicate}
use Rattle.std.proofs.Common.{sym, ap, ◌∙◌, subst, inl, inr, ⊎_elim, true≢false, arith, take_all}
use Rattle.std.proofs.Math.Option.{some}
use mathlib.Core.List.Memᴰ
use mathlib.Core.List.{List, [], ◌∷◌, ◌++◌, head-eq_of_cons-eq, Memᴰ}
use Rattle.std.proofs.Math.Decide.{ℕ_discrete}
use Rattle.std.proofs.lemmas.List.{length-replicate}
use Rattle.sequence.specs.Lists.{up_to, keep, count, head_or}
use Rattle.rtp.specs.Length.{good_length}
use Rattle.window.specs.declared.Window.{Window}
use Rattle.window.specs.Record.{blank}
use Rattle.window.specs.Limits.{rows}
use Rattle.window.specs.Store.{Store, record_at}
use Rattle.window.specs.Group.{is_missing, missing, present}
use Rattle.window.specs.Order.{is_in_use, missing_at}
use Rattle.calls.specs.Content.{Content, Recovery, xor_contents, content_at, recovery_at, content_over, fits}
use Rattle.peel.specs.Group.{total, None, One, one-count, none-count, none_insert}
use Rattle.peel.specs.Peel.{gone, miss, Keeps, Full, Rebuild, Spoilt, Step}
use Rattle.guarantee.proofs.Ranges.{count_raise, count-keep}
use Rattle.guarantee.specs.Packets.{Whole, xored, zeros, packet_of}
use Rattle.guarantee.proofs.Packets.{content_from_lem, packet-xor, packet-total, whole-xor, whole_xors}
use Rattle.guarantee.specs.Lengths.{Clean}
use Rattle.guarantee.proofs.Lengths.{fits-good, fits-clean}
use Rattle.guarantee.specs.View.{Limits, group_of, code, check_at, packet_at, slot_at, Held, view, Good, Missing}
use Rattle.guarantee.proofs.View.{member-lt, slot-present, slot-missing, miss-count, content-whole}
use Rattle.guarantee.proofs.Changes.{fill_keeps, fill_new, put-filled, put-others, put-held, put-was-held, put-good, put-missing, record_slot, record_held, record_was-held, record_same, record_other, record_good_lem}
use Rattle.guarantee.specs.Moves.{rebuilt_in, Solved, freed}

-- ---- the one missing member of a group
module _ (f : ℕ → Bool) where
  -- a test that holds of nothing keeps nothing
  keep-none : (b : List ℕ) → None f b → keep f b ≡ []
  keep-none [] n = refl
  keep-none (j ∷ b) n = rw (n j (Memᴰ.head refl)) (keep-none b (λ i m. n i (Memᴰ.tail m)))

  -- and its opposite keeps all
  keep_all : (b : List ℕ) → None f b → keep (λ j. not (f j)) b ≡ b
  keep_all [] n = refl
  keep_all (j ∷ b) n = rw (n j (Memᴰ.head refl)) (ap (λ l. j ∷ l) (keep_all b (λ i m. n i (Memᴰ.tail m))))

  -- the one that a test holds of is kept, and the others are what is left
  keep_one : (a : List ℕ) (i : ℕ) (b : List ℕ) → f i ≡ true → None f (a ++ b) → keep f (a ++ (i ∷ b)) ≡ i ∷ []
  keep_one [] i b e n = rw e (ap (λ l. i ∷ l) (keep-none b n))
  keep_one (j ∷ a) i b e n = rw (n j (Memᴰ.head refl)) (keep_one a i b e (λ k m. n k (Memᴰ.tail m)))

  -- those that it does not hold of
  keep-rest : (a : List ℕ) (i : ℕ) (b : List ℕ) → f i ≡ true → None f (a ++ b) → keep (λ j. not (f j)) (a ++ (i ∷ b)) ≡ a ++ b
  keep-rest [] i b e n = rw e (keep_all b n)
  keep-rest (j ∷ a) i b e n = rw (n j (Memᴰ.head refl)) (ap (λ l. j ∷ l) (keep-rest a i b e (λ k m. n k (Memᴰ.tail m))))

-- a list of one element
pub single : (l : List ℕ) → length l ≡ 1 → l ≡ head_or 0 l ∷ []
single [] e = absurd (omega (arith, e))
single (i ∷ []) e = refl
single (i ∷ j ∷ l) e = absurd (omega (arith, e))

-- the other elements are elements
mem_insert : {A : Type 0} (x : A) (a : List A) (i : A) (b : List A) → Memᴰ x (a ++ b) → Memᴰ x (a ++ (i ∷ b))
mem_insert x a i b m = ⊎_elim (λ l. Memᴰ.append_left (i ∷ b) l) (λ r. Memᴰ.append_right a (Memᴰ.tail r)) (Memᴰ.append_cases a m)

module _ (w : Window) (s : Store) where
  -- the parts of the group around the one missing
  solved-at : (g : List ℕ) → ((j : ℕ) → Memᴰ j g → j < w.n) → (v : Content) → Whole w.p v → (o : One (is_missing s.marks) g) → Solved w s g v o.at
  solved-at g within v hp o = record {
    left = o.left;
    right = o.right;
    is = o.is;
    below = within o.at (inside o.at (Memᴰ.append_right o.left (Memᴰ.head refl)));
    empty = o.marked;
    rest = λ j m. slot-present w s j (inner j m) (o.rest j m);
    size = whole-xor v held hp long;
    adds = packet-xor v held hp long ∙ ap (xored (packet_of v)) (packet-total w.p (content_at w s) (content-whole w s) (present s.marks g) ∙ ap (total xored zeros (packet_at w s)) left_over);
  }
    where
      held : Content
      held = xor_contents w.p (content_at w s) (present s.marks g)

      inside : (j : ℕ) → Memᴰ j (o.left ++ (o.at ∷ o.right)) → Memᴰ j g
      inside j m = subst (Memᴰ j) (sym o.is) m

      left_over : present s.marks g ≡ o.left ++ o.right
      left_over = ap (present s.marks) o.is ∙ keep-rest (is_missing s.marks) o.left o.at o.right o.marked o.rest

      inner : (j : ℕ) → Memᴰ j (o.left ++ o.right) → j < w.n
      inner j m = within j (inside j (mem_insert j o.left o.at o.right m))

      long : Whole w.p held
      long = whole_xors w.p (content_at w s) (content-whole w s) (present s.marks g)

  -- a group with one member missing is solved
  pub solved : (g : List ℕ) → ((j : ℕ) → Memᴰ j g → j < w.n) → (v : Content) → Whole w.p v → (i : ℕ) → missing s.marks g ≡ i ∷ [] → Solved w s g v i
  solved g within v hp i e =
      let f = is_missing s.marks in
      let o : One f g = one-count f g (count-keep f g ∙ ap length e) in
      let z : missing s.marks g ≡ o.at ∷ [] = ap (keep f) o.is ∙ keep_one f o.left o.at o.right o.marked o.rest in
      subst (Solved w s g v) (head-eq_of_cons-eq (sym z ∙ e)) (solved-at g within v hp o)

-- ---- rebuilding
module _ {w : Window} {s : Store} (k : ℕ × ℕ) (v : Recovery) (i : ℕ) (q : Solved w s (group_of w k) v.content i) where
  -- the packet rebuilt
  abbrev content : Content
  content = content_over w s (group_of w k) v.content

  -- it is a rebuild by check k, which is one of the checks H
  rebuilds : (H : ℕ × ℕ → Recovery → Type 0) → H k v → Rebuild (code w) (record { slot = slot_at w s; held = H }) k v i (packet_of content)
  rebuilds H held = record { f = packet_at w s; left = q.left; right = q.right; held = held; is = q.is; missing = ap gone (slot-missing w s i q.empty); rest = q.rest; adds = q.adds }

  -- it fits where its content does
  fits-packet : (code w).fits v (packet_of content) ≡ fits w v content
  fits-packet = ap (fits w v) (content_from_lem w.p content q.size)

  -- and is spoilt where that does not
  pub spoilt-by : (H : ℕ × ℕ → Recovery → Type 0) → H k v → fits w v (content_over w s (group_of w k) v.content) ≡ false → Spoilt (code w) (record { slot = slot_at w s; held = H }) k v
  spoilt-by H held e = (i, packet_of content, rebuilds H held, fits-packet ∙ e)

  module _ {a u : ℕ} (G : Good w a u s) (big : good_length w.p v.size ≡ true) (ok : fits w v (content_over w s (group_of w k) v.content) ≡ true) where
    -- the store with it
    abbrev after : Store
    after = rebuilt_in w s (group_of w k) v.content i

    -- past its length there are zeros
    clean : Clean w.p content.length content.payload
    clean = fits-clean w v content ok q.size

    -- the missing slot is filled
    filled : slot_at w after i ≡ some (packet_of content)
    filled = put-filled G i content q.below clean

    -- the other slots stay
    others : (j : ℕ) → j ≢ i → slot_at w after j ≡ slot_at w s j
    others = put-others G i content q.below clean

    -- every packet is kept
    keeps : Keeps (view w s) (view w after)
    keeps = fill_keeps (view w s) (view w after) i _ (slot-missing w s i q.empty) filled others

    -- after a rebuild the store is in order, with one packet more
    pub rebuild-good : Good w (a + 1) u (rebuilt_in w s (group_of w k) v.content i)
    rebuild-good = put-good G i content q.below clean q.empty (fits-good w v content ok big)

    -- of each check at most one member fewer is missing
    pub rebuild-missing : Limits w → (m : ℕ) → Missing (suc m) w s → Missing m w (rebuilt_in w s (group_of w k) v.content i)
    rebuild-missing = put-missing G i content q.below clean

    -- no member of its check is missing
    pub rebuild-full : Full (code w) (view w (rebuilt_in w s (group_of w k) v.content i)) k
    rebuild-full =
        subst (None (miss (view w after))) (sym q.is)
        (none_insert (miss (view w after)) q.left i q.right (ap gone filled) (λ j m. ap gone (keeps j _ (q.rest j m))))

    -- and it is a step, by check k, which is one of the checks H; the store need hold only the others
    pub step_rebuild : (H : ℕ × ℕ → Recovery → Type 0) → H k v → ((l : ℕ × ℕ) (x : Recovery) → Held w s l x → H l x) → ((l : ℕ × ℕ) (x : Recovery) → H l x → Held w s l x ⊎ (l ≡ k))
        → Step (code w) (record { slot = slot_at w s; held = H }) (view w (rebuilt_in w s (group_of w k) v.content i))
    step_rebuild H held sub sup = record {
      keeps = keeps;
      new = λ j y e. ⊎_elim inl (λ z. inr (k, v, rw (← z.0, ← z.1) (rebuilds H held), ap ((code w).fits v) (sym z.1) ∙ fits-packet ∙ ok)) (fill_new (view w s) (view w after) i (packet_of content) (slot-missing w s i q.empty) filled others j y e);
      sub = λ l y h. sub l y (put-was-held G i content q.below clean l y h);
      release = λ l y h. ⊎_elim (λ z. inl (put-held G i content q.below clean l y z)) (λ z. inr (inl (rw z rebuild-full))) (sup l y h);
    }

module _ {w : Window} {a u : ℕ} {s : Store} (G : Good w a u s) (r : ℕ) (hr : r < rows w) (used : is_in_use w s r ≡ true) where
  -- zeros are a payload
  size : Clean w.p 0 (replicate w.p 0)
  size = take_all w.p (replicate w.p 0) (omega (arith, length-replicate {A = ℕ} w.p 0))

  -- it is zero
  pub freed-blank : record_at (freed w s r) r ≡ blank
  freed-blank = record_same G r blank (replicate w.p 0) hr size

  -- so it is not in use
  freed_off : is_in_use w (freed w s r) r ≡ false
  freed_off = rw freed-blank

  -- a record that is still in use is another
  pub freed-other : (q : ℕ) → is_in_use w (freed w s r) q ≡ true → q ≢ r
  freed-other q e z = true≢false (sym e ∙ ap (is_in_use w (freed w s r)) z ∙ freed_off)

  -- the others are as they were
  pub freed-same : (q : ℕ) → q ≢ r → record_at (freed w s r) q ≡ record_at s q
  freed-same = record_other G r blank (replicate w.p 0) hr size

  -- one record fewer is in use
  freed-count : u ≡ suc (count (is_in_use w (freed w s r)) (up_to (rows w)))
  freed-count = G.in_use ∙ count_raise (is_in_use w (freed w s r)) (is_in_use w s) (rows w) r hr freed_off used (λ q n. rw (freed-same q n))

  -- so the count goes down
  pub freed-fewer : u - 1 < u
  freed-fewer = omega (arith, freed-count)

  -- and the store stays in order
  pub freed-good : Good w a (u - 1) (freed w s r)
  freed-good = record_good_lem G r blank (replicate w.p 0) hr size (u - 1) (omega arith) (λ e. absurd (true≢false (sym e))) (λ e. absurd (true≢false (sym e))) (λ e. absurd (true≢false (sym e))) (omega (arith, freed-count))

  -- no slot changes
  slot : (i : ℕ) → slot_at w (freed w s r) i ≡ slot_at w s i
  slot = record_slot G r blank (replicate w.p 0) hr size

  -- letting go of a check that is full or spoilt is a step
  pub step_free : Full (code w) (view w (freed w s r)) (check_at s r) ⊎ Spoilt (code w) (view w s) (check_at s r) (recovery_at w s r) → Step (code w) (view w s) (view w (freed w s r))
  step_free why = record {
    keeps = λ i x e. slot i ∙ e;
    new = λ i x e. inl (sym (slot i) ∙ e);
    sub = λ k x h. record_was-held G r blank (replicate w.p 0) hr size k x h (freed-other h.at h.used);
    release = λ k x h. go k x h (ℕ_discrete h.at r);
  }
    where
      go : (k : ℕ × ℕ) (x : Recovery) (h : Held w s k x) → Dec (h.at ≡ r) → Held w (freed w s r) k x ⊎ (Full (code w) (view w (freed w s r)) k ⊎ Spoilt (code w) (view w s) k x)
      go k x h (no n) = inl (record_held G r blank (replicate w.p 0) hr size k x h n)
      go k x h (yes e) = inr (rw (← h.names, ← h.carries, e) why)

  -- one with none missing is full
  pub freed-full : length (missing_at w s r) ≡ 0 → Full (code w) (view w (freed w s r)) (check_at s r)
  freed-full none-missing j m =
      let g = group_of w (check_at s r) in
      ap gone (slot j) ∙ none-count (miss (view w s)) g (miss-count w s g (member-lt (G.shaped r hr used)) ∙ none-missing) j m
