-- What a run of unaltered offers leaves in a store that held only what is unaltered: nothing was lost, and all of it is unaltered again.
use Rattle.std.specs.Prelude.{◌≡◌, refl, true, false, ℕ, ◌<◌}
use Rattle.std.proofs.Common.{sym, ap, ap₂, ◌∙◌, inl, inr, ⊎_elim, true≢false}
use mathlib.Core.List.{List, [], ◌∷◌, map, Memᴰ}
use Rattle.xor.specs.Xor.{xor_payloads, xor_all}
use Rattle.sequence.specs.Lists.{any}
use Rattle.window.specs.declared.Window.{Window}
use Rattle.window.specs.Store.{Store}
use Rattle.window.specs.Group.{group, inside, is_missing}
use Rattle.calls.specs.Content.{Content, content_at, Recovery, same_recovery, recovery_at, longest, recovery_over}
use Rattle.peel.specs.Peel as Theory
use Rattle.peel.proofs.Theorem.{right, run-inv}
use Rattle.guarantee.proofs.Ranges.{any_none}
use Rattle.guarantee.specs.Packets.{Packet}
use Rattle.guarantee.proofs.Packets.{packet-content}
use Rattle.guarantee.specs.View.{Limits, code, check_at, packet_at, view, Good}
use Rattle.guarantee.proofs.View.{group-lt, slot-present, content-whole}
use Rattle.guarantee.specs.Demand3.{Offer, Stretch, Fills, content_sent, recovery_sent, Unaltered, mark_at}
use Rattle.guarantee.specs.Start.{Holds}
use Rattle.guarantee.specs.Sent.{sent, seen}
use Rattle.guarantee.proofs.Sent.{sent-whole}
use Rattle.guarantee.specs.Names.{Got}
use Rattle.guarantee.proofs.Names.{check_in, got-check, got-unaltered}
use Rattle.guarantee.specs.Lying.{Lying}
use Rattle.guarantee.proofs.Lying.{recovery_self}

-- ---- a store that holds what was sent
-- two maps that agree on a list
map_on : {A : Type 0} (f h : ℕ → A) (l : List ℕ) → ((i : ℕ) → Memᴰ i l → f i ≡ h i) → map f l ≡ map h l
map_on f h [] e = refl
map_on f h (i ∷ l) e = ap₂ ◌∷◌ (e i (Memᴰ.head refl)) (map_on f h l (λ j m. e j (Memᴰ.tail m)))

-- a group of which each packet is the one sent gives the recovery sent
recovery_on : (w : Window) (t : Stretch) (s : Store) (g : List ℕ) → ((i : ℕ) → Memᴰ i g → content_at w s i ≡ content_sent w t i) → recovery_over w s g ≡ recovery_sent w t g
recovery_on w t s g e =
    let stamps = map_on (λ i. (content_at w s i).timestamp) (λ i. (content_sent w t i).timestamp) g (λ i m. ap (λ (c : Content). c.timestamp) (e i m)) in
    let lengths = map_on (λ i. (content_at w s i).length) (λ i. (content_sent w t i).length) g (λ i m. ap (λ (c : Content). c.length) (e i m)) in
    let payloads = map_on (λ i. (content_at w s i).payload) (λ i. (content_sent w t i).payload) g (λ i m. ap (λ (c : Content). c.payload) (e i m)) in
    λ k. record { content = record { timestamp = xor_all (stamps k); length = xor_all (lengths k); payload = xor_payloads w.p (payloads k) }; size = longest (lengths k) }

-- so does a group of the window that is whole, where all that is present is what was sent
pub recovery_agrees : (w : Window) (t : Stretch) (s : Store) → ((i : ℕ) → i < w.n → is_missing s.marks i ≡ false → content_at w s i ≡ content_sent w t i)
    → (stream snbase : ℕ) → inside w stream snbase ≡ true → any (is_missing s.marks) (group w stream snbase) ≡ false → recovery_over w s (group w stream snbase) ≡ recovery_sent w t (group w stream snbase)
recovery_agrees w t s is stream snbase within whole =
    recovery_on w t s (group w stream snbase) (λ i m. is i (group-lt w stream snbase within i m) (any_none (is_missing s.marks) (group w stream snbase) whole i m))

-- ---- after a run
-- what is present after a run of unaltered offers is what was sent
run-sent : (w : Window) (t : Stretch) (s : Store) (os : List (Theory.Offer (ℕ × ℕ) Recovery Packet))
    → ((p : Theory.Offer (ℕ × ℕ) Recovery Packet) → Theory.Plus (Theory.Has (view w s)) os p → Theory.Unaltered (code w) (sent w t) p)
    → (y : Store) → Theory.Runs (code w) (view w s) os (view w y) → (i : ℕ) → i < w.n → is_missing y.marks i ≡ false → content_at w y i ≡ content_sent w t i
run-sent w t s os ok y runs i h n = packet-content (content_at w y i) (content_sent w t i) (content-whole w y i) (sent-whole w t i)
    (right (code w) (sent w t) (run-inv (code w) (sent w t) ok runs).sound ok i (packet_at w y i) (slot-present w y i h n))

module _ {w : Window} (L : Limits w) {t : Stretch} (F : Fills w t) {a u : ℕ} {s : Store} (G : Good w a u s) (H : Holds w t s) {offers : List Offer}
    (ok : (o : Offer) → Memᴰ o offers → Unaltered w t o) where
  -- no check of them lies
  pub never-lying : Lying w s (map (seen w) offers) → ⊥
  never-lying b =
      let among : (p : Theory.Offer (ℕ × ℕ) Recovery Packet) → Theory.Plus (Theory.Has (view w s)) b.taken p → Theory.Unaltered (code w) (sent w t) p =
      λ p m. got-unaltered L F G ok H p (⊎_elim inl (λ n. inr (b.among p n)) m) in
      let v = got-check L F G ok H b.key b.carries (inr b.offered) in
      let q = recovery_agrees w t b.then (run-sent w t s b.taken among b.then b.runs) b.key.0 b.key.1 (check_in L F G ok b.key b.carries (inr b.offered)).0 b.whole in
      true≢false (sym (recovery_self b.carries) ∙ ap (λ z. same_recovery z b.carries) (v ∙ sym q) ∙ b.differs)

module _ {w : Window} (L : Limits w) {t : Stretch} (F : Fills w t) {a u : ℕ} {s : Store} (G : Good w a u s) (H : Holds w t s) {offers : List Offer}
    (ok : (o : Offer) → Memᴰ o offers → Unaltered w t o) (y : Store) (runs : Theory.Runs (code w) (view w s) (map (seen w) offers) (view w y)) where
  -- what was received is unaltered
  pub unaltered : (p : Theory.Offer (ℕ × ℕ) Recovery Packet) → Got w s offers p → Theory.Unaltered (code w) (sent w t) p
  unaltered = got-unaltered L F G ok H

  -- nothing of it was lost
  pub inv : Theory.Inv (code w) (Got w s offers) (view w y)
  inv = run-inv (code w) (sent w t) unaltered runs

  -- what is present is what was sent
  pub present-sent : (i : ℕ) → i < w.n → mark_at y i ≡ 1 → content_at w y i ≡ content_sent w t i
  present-sent i h e = run-sent w t s (map (seen w) offers) unaltered y runs i h (rw e)

  -- and all that the store holds is unaltered again
  pub holds_again : Holds w t y
  holds_again = record {
    media = present-sent;
    parity = λ r h e. let k = check_at y r in
        let v = recovery_at w y r in
        got-check L F G ok H k v (inv.sound.kept k v (record { at = r; below = h; used = e; names = refl; carries = refl }));
  }
