-- What is received, by name (Start.antt) and as the theory has it: the same packets, and their groups.
use Rattle.std.specs.Prelude.{◌≡◌, refl, Bool, true, false, cond, ◌&&◌, ◌||◌, ℕ, ◌<◌, eqb, get_or}
use Rattle.std.proofs.Common.{sym, ap, ◌∙◌, subst, inl, inr, ⊎_elim, arith, eqb-true, eq-eqb}
use Rattle.std.proofs.lemmas.Bool.{false≢true}
use Rattle.std.proofs.Math.Option.{some}
use mathlib.Core.List.{List, [], ◌∷◌, ◌++◌, map, Memᴰ}
use Rattle.sequence.specs.Lists.{up_to, keep}
use Rattle.sequence.proofs.Lists.{and_split as both}
use Rattle.sequence.specs.Wrap.{number_at}
use Rattle.window.specs.declared.Window.{Window}
use Rattle.window.specs.Limits.{width, rows}
use Rattle.window.specs.Store.{Store, record_at}
use Rattle.window.specs.Group.{position, inside}
use Rattle.window.specs.Order.{is_present, is_in_use}
use Rattle.calls.specs.Content.{Recovery, recovery_at}
use Rattle.peel.specs.Peel as Theory
use Rattle.guarantee.proofs.Ranges.{up_to-lt, up_to-mem, keep-mem, mem-keep}
use Rattle.guarantee.specs.Packets.{Packet, packet_of}
use Rattle.guarantee.specs.View.{Limits, group_of, code, Held, packet_at, view, Good}
use Rattle.guarantee.proofs.View.{slot_is, slot-present, mark-one}
use Rattle.guarantee.specs.Demand3.{Offer, Stretch, Fills, recovery_sent, Unaltered, Name, media_name, parity_name, name_of, names_of, Received, group_named, groups_of, listed, different, distinct_groups}
use Rattle.guarantee.specs.Start.{Holds, media_held, parity_held, held_and}
use Rattle.guarantee.specs.Sent.{sent, seen}
use Rattle.guarantee.proofs.Sent.{check-sent, check-carries, media-carries, position-number, media_name_lem, name_media, check_name, name_check}
use Rattle.guarantee.specs.Names.{Got}

-- ---- the different groups of a list
-- a group that is listed is in the list
listed-mem : (k : ℕ × ℕ) (l : List (ℕ × ℕ)) → listed k l ≡ true → Memᴰ k l
listed-mem k [] e = absurd (false≢true e)
listed-mem k (x ∷ l) e = go (eqb k.0 x.0 && eqb k.1 x.1) refl (listed-mem k l) e
  where
    go : (b : Bool) → (eqb k.0 x.0 && eqb k.1 x.1) ≡ b → (listed k l ≡ true → Memᴰ k l) → (b || listed k l) ≡ true → Memᴰ k (x ∷ l)
    go true q ih h = let z = both (eqb k.0 x.0) (eqb k.1 x.1) q in mathlib.Core.List.Memᴰ.head (λ i. (eqb-true k.0 x.0 z.0 i, eqb-true k.1 x.1 z.1 i))
    go false q ih h = mathlib.Core.List.Memᴰ.tail (ih h)

-- every group is among the different ones
different-has : (l : List (ℕ × ℕ)) (k : ℕ × ℕ) → Memᴰ k l → Memᴰ k (different l)
unfolding different
different-has [] k m = m
different-has (x ∷ l) k m = go (listed x l) refl (different-has l) m
  where
    go : (b : Bool) → listed x l ≡ b → ((j : ℕ × ℕ) → Memᴰ j l → Memᴰ j (different l)) → Memᴰ k (x ∷ l) → Memᴰ k (cond b (different l) (x ∷ different l))
    go true q ih (mathlib.Core.List.Memᴰ.head e) = mathlib.Core.List.Memᴰ.cast e (ih x (listed-mem x l q))
    go true q ih (mathlib.Core.List.Memᴰ.tail n) = ih k n
    go false q ih (mathlib.Core.List.Memᴰ.head e) = mathlib.Core.List.Memᴰ.head e
    go false q ih (mathlib.Core.List.Memᴰ.tail n) = mathlib.Core.List.Memᴰ.tail (ih k n)

-- the group of every parity packet is among the groups
groups_has : (names : List Name) (stream snbase : ℕ) → Memᴰ (parity_name stream snbase) names → Memᴰ (stream, snbase) (groups_of names)
groups_has [] a b m = absurd (mathlib.Core.List.Memᴰ.not-nil m)
groups_has (x ∷ names) a b (mathlib.Core.List.Memᴰ.head e) = mathlib.Core.List.Memᴰ.append_left (groups_of names) (subst (λ y. Memᴰ (a, b) (group_named y)) e (mathlib.Core.List.Memᴰ.head refl))
groups_has (x ∷ names) a b (mathlib.Core.List.Memᴰ.tail m) = mathlib.Core.List.Memᴰ.append_right (group_named x) (groups_has names a b m)

-- and so among the different ones
pub distinct_has : (names : List Name) (stream snbase : ℕ) → Memᴰ (parity_name stream snbase) names → Memᴰ (stream, snbase) (distinct_groups names)
distinct_has names a b m = different-has (groups_of names) (a, b) (groups_has names a b m)

-- the two names are not one
not-parity : {n a b : ℕ} → media_name n ≡ parity_name a b → ⊥
not-parity e = let z : ◌≡◌ {A = ℕ} 0 1 = cc in omega arith

module _ {w : Window} (L : Limits w) {t : Stretch} (F : Fills w t) {a u : ℕ} {s : Store} (G : Good w a u s) {offers : List Offer}
    (ok : (o : Offer) → Memᴰ o offers → Unaltered w t o) where
  -- ---- from the theory to the names

  -- a media packet lies in the window, and its name is received
  pub media_in : (i : ℕ) (x : Packet) → Got w s offers (Theory.media i x) → (i < w.n) × Received (held_and w s offers) (media_name (number_at width w.base i))
  media_in i x (inl e) =
      let z = slot_is w s i x e in
      let there : Memᴰ i (keep (is_present s.marks) (up_to w.n)) = keep-mem (is_present s.marks) (up_to w.n) i (eq-eqb (get_or s.marks i 0) 1 (mark-one G i z.0 z.1)) (up_to-mem w.n i z.0) in
      (z.0, mathlib.Core.List.Memᴰ.append_left (names_of offers) (mathlib.Core.List.Memᴰ.append_left (parity_held w s) (mathlib.Core.List.Memᴰ.map (λ i. media_name (number_at width w.base i)) there)))
  media_in i x (inr m) =
      let o = mathlib.Core.List.Memᴰ.of_map (seen w) offers m in
      let z = media_name_lem L F o.0.port o.0.datagram (ok o.0 o.1) i x o.2 in
      (z.0, mathlib.Core.List.Memᴰ.append_right (media_held w s ++ parity_held w s) (mathlib.Core.List.Memᴰ.cast (sym z.1) (mathlib.Core.List.Memᴰ.map name_of o.1)))

  -- the group of a check lies in the window, and its name is received
  pub check_in : (k : ℕ × ℕ) (v : Recovery) → Got w s offers (Theory.check k v) → (inside w k.0 k.1 ≡ true) × Received (held_and w s offers) (parity_name k.0 k.1)
  check_in k v (inl h) =
      let there : Memᴰ h.at (keep (is_in_use w s) (up_to (rows w))) = keep-mem (is_in_use w s) (up_to (rows w)) h.at h.used (up_to-mem (rows w) h.at h.below) in
      let name : Memᴰ (parity_name (record_at s h.at).stream (record_at s h.at).snbase) (parity_held w s) = mathlib.Core.List.Memᴰ.map (λ r. parity_name (record_at s r).stream (record_at s r).snbase) there in
      rw (← h.names) ((G.shaped h.at h.below h.used).within, mathlib.Core.List.Memᴰ.append_left (names_of offers) (mathlib.Core.List.Memᴰ.append_right (media_held w s) name))
  check_in k v (inr m) =
      let o = mathlib.Core.List.Memᴰ.of_map (seen w) offers m in
      let z = check_name L F o.0.port o.0.datagram (ok o.0 o.1) k v o.2 in
      (z.0, mathlib.Core.List.Memᴰ.append_right (media_held w s ++ parity_held w s) (mathlib.Core.List.Memᴰ.cast (sym z.1) (mathlib.Core.List.Memᴰ.map name_of o.1)))

  -- ---- and back

  -- a name among those that the store holds
  held-media : (i : ℕ) → i < w.n → Memᴰ (media_name (number_at width w.base i)) (media_held w s) → (x : Packet) × ((view w s).slot i ≡ some x)
  held-media i h m =
      let j = mathlib.Core.List.Memᴰ.of_map (λ i. media_name (number_at width w.base i)) (keep (is_present s.marks) (up_to w.n)) m in
      let q = mem-keep (is_present s.marks) (up_to w.n) j.0 j.1 in
      let n : number_at width w.base j.0 ≡ number_at width w.base i = same_number j.2 in
      let e : j.0 ≡ i = sym (position-number L j.0 (up_to-lt w.n j.0 q.0)) ∙ ap (position w) n ∙ position-number L i h in
      let one : get_or s.marks i 0 ≡ 1 = ap (λ k. get_or s.marks k 0) (sym e) ∙ eqb-true (get_or s.marks j.0 0) 1 q.1 in
      (packet_at w s i, slot-present w s i h (rw one))
    where
      same_number : {m n : ℕ} → media_name m ≡ media_name n → m ≡ n
      same_number e = cc

  -- a parity packet in hand
  held-check : (a b : ℕ) → Memᴰ (parity_name a b) (parity_held w s) → (v : Recovery) × Held w s (a, b) v
  held-check a b m =
      let r = mathlib.Core.List.Memᴰ.of_map (λ r. parity_name (record_at s r).stream (record_at s r).snbase) (keep (is_in_use w s) (up_to (rows w))) m in
      let q = mem-keep (is_in_use w s) (up_to (rows w)) r.0 r.1 in
      (recovery_at w s r.0, record { at = r.0; below = up_to-lt (rows w) r.0 q.0; used = q.1; names = same_group_lem r.2; carries = refl })
    where
      same_group_lem : {i j k l : ℕ} → parity_name i j ≡ parity_name k l → ◌≡◌ {A = ℕ × ℕ} (i, j) (k, l)
      same_group_lem {i} {j} {k} {l} e = let y : i ≡ k = cc in let z : j ≡ l = cc in λ h. (y h, z h)

  -- a media packet that is received by its name
  pub in_media : (i : ℕ) → i < w.n → Received (held_and w s offers) (media_name (number_at width w.base i)) → (x : Packet) × Got w s offers (Theory.media i x)
  in_media i h m = ⊎_elim (λ a. ⊎_elim (λ b. let z = held-media i h b in (z.0, inl z.1)) (λ b. absurd (other b)) (mathlib.Core.List.Memᴰ.append_cases (media_held w s) a)) listed
      (mathlib.Core.List.Memᴰ.append_cases (media_held w s ++ parity_held w s) m)
    where
      other : Memᴰ (media_name (number_at width w.base i)) (parity_held w s) → ⊥
      other b = not-parity (sym (mathlib.Core.List.Memᴰ.of_map (λ r. parity_name (record_at s r).stream (record_at s r).snbase) (keep (is_in_use w s) (up_to (rows w))) b).2)

      listed : Memᴰ (media_name (number_at width w.base i)) (names_of offers) → (x : Packet) × Got w s offers (Theory.media i x)
      listed a =
          let o = mathlib.Core.List.Memᴰ.of_map name_of offers a in
          let x = name_media L F o.0.port o.0.datagram i h o.2 in
          (x.0, inr (mathlib.Core.List.Memᴰ.cast (sym x.1) (mathlib.Core.List.Memᴰ.map (seen w) o.1)))

  -- a parity packet that is received by its name
  pub in_check : (a b : ℕ) → Received (held_and w s offers) (parity_name a b) → (v : Recovery) × Got w s offers (Theory.check (a, b) v)
  in_check a b m = ⊎_elim (λ q. ⊎_elim (λ n. absurd (other n)) (λ n. let z = held-check a b n in (z.0, inl z.1)) (mathlib.Core.List.Memᴰ.append_cases (media_held w s) q)) listed
      (mathlib.Core.List.Memᴰ.append_cases (media_held w s ++ parity_held w s) m)
    where
      other : Memᴰ (parity_name a b) (media_held w s) → ⊥
      other n = not-parity (mathlib.Core.List.Memᴰ.of_map (λ i. media_name (number_at width w.base i)) (keep (is_present s.marks) (up_to w.n)) n).2

      listed : Memᴰ (parity_name a b) (names_of offers) → (v : Recovery) × Got w s offers (Theory.check (a, b) v)
      listed q =
          let o = mathlib.Core.List.Memᴰ.of_map name_of offers q in
          let x = name_check L F o.0.port o.0.datagram a b o.2 in
          (x.0, inr (mathlib.Core.List.Memᴰ.cast (sym x.1) (mathlib.Core.List.Memᴰ.map (seen w) o.1)))

  -- ---- what was received is unaltered, where the store held only such

  pub got-check : Holds w t s → (k : ℕ × ℕ) (v : Recovery) → Got w s offers (Theory.check k v) → v ≡ recovery_sent w t (group_of w k)
  got-check H k v (inl h) = sym h.carries ∙ H.parity h.at h.below h.used ∙ ap (λ j. recovery_sent w t (group_of w j)) h.names
  got-check H k v (inr m) = let o = mathlib.Core.List.Memᴰ.of_map (seen w) offers m in check-carries L F o.0.port o.0.datagram (ok o.0 o.1) k v o.2

  pub got-unaltered : Holds w t s → (p : Theory.Offer (ℕ × ℕ) Recovery Packet) → Got w s offers p → Theory.Unaltered (code w) (sent w t) p
  got-unaltered H (Theory.media i x) (inl e) = let z = slot_is w s i x e in z.2 ∙ ap packet_of (H.media i z.0 (mark-one G i z.0 z.1))
  got-unaltered H (Theory.media i x) (inr m) = let o = mathlib.Core.List.Memᴰ.of_map (seen w) offers m in media-carries L F o.0.port o.0.datagram (ok o.0 o.1) i x o.2
  got-unaltered H (Theory.check k v) m = check-sent F k (check_in k v m).0 v (got-check H k v m)
