-- What every receiver shares that did only what specs/Peel.antt allows and has come to rest, whatever its engine:
-- what it has was sent (right), what it lacks no engine could rebuild (missing_iff), and neither the order of the offers nor
-- the engine matters (same, engines_agree).
use Rattle.std.specs.Prelude.{◌≡◌, refl, ◌↔◌, ◌≢◌, ◌⊎◌, Bool, true, false, List, [], ℕ}
use Rattle.std.proofs.Common.{sym, ◌∙◌, ap, inl, inr, ⊎_elim, true≢false, arith}
use Rattle.std.proofs.Math.Option.{Option, none, some}
use Rattle.peel.specs.Group.{count, count_none}
use Rattle.peel.specs.Peel.{Code, Offer, media, check, Set, Plus, Covered, View, gone, miss, Has, Full, Steps, Runs, Spoiling, Stopping, Sound, Unaltered, Inv}
use Rattle.peel.proofs.Peel.{there, steps-run, stopping-fewer, known-outside, known-sent, inv-has, unspoilt, inv-runs}
use Rattle.peel.specs.Rest.{Still}
use Rattle.peel.proofs.Rest.{agree}

module _ {K C X : Type 0} (P : Code K C X) where
  -- what stands at a position was sent there, at rest or not, if what was received is unaltered
  pub right : (sent : ℕ → X) {R : Set (Offer K C X)} {s : View K C X} → Sound P R s → ((p : Offer K C X) → R p → Unaltered P sent p)
      → (i : ℕ) (x : X) → s.slot i ≡ some x → x ≡ sent i
  right sent v ok i x e = known-sent P sent ok (v.known i x e)

  -- a position of a stopping set is missing, at rest or not
  pub stopping-missing : {R : Set (Offer K C X)} {s : View K C X} → Sound P R s → {S : ℕ → Bool} → Stopping P R S → (i : ℕ) → S i ≡ true → miss s i ≡ true
  stopping-missing {s = s} v {S} st i h = go (miss s i) refl
    where
      go : (b : Bool) → miss s i ≡ b → b ≡ true
      go true e = refl
      go false e = let w = there (s.slot i) e in absurd (true≢false (sym h ∙ known-outside P st (v.known i w.0 w.1)))

  module _ {R : Set (Offer K C X)} {s : View K C X} (v : Inv P R s) (r : Still P s) where
    -- the missing positions are a stopping set
    pub stopping : Stopping P R (miss s)
    stopping = record {
      unreceived = λ i x m. v.all (media i x) m;
      never-one = λ k w m. no_one k (v.all (check k w) m);
    }
      where
        no_one : (k : K) → ((w : C) × s.held k w) ⊎ Full P s k → count (miss s) (P.group k) ≢ 1
        no_one k (inl h) = r k h.0 h.1
        no_one k (inr n) = λ e. let z = count_none (miss s) (P.group k) n in omega arith

    -- a position is missing exactly if it lies in a stopping set
    pub missing_iff : (i : ℕ) → (miss s i ≡ true) ↔ ((S : ℕ → Bool) × Stopping P R S × (S i ≡ true))
    missing_iff i = (λ e. (miss s, stopping, e), λ w. stopping-missing v.sound w.1 i w.2)

    -- what another receiver has that was offered no more, this one has
    pub more : {Q : Set (Offer K C X)} {t : View K C X} → Sound P Q t → Covered Q R → (i : ℕ) → miss t i ≡ false → miss s i ≡ false
    more {t = t} w sub i e = go (miss s i) refl
      where
        go : (b : Bool) → miss s i ≡ b → miss s i ≡ false
        go false q = q
        go true q = absurd (true≢false (sym (stopping-missing w (stopping-fewer P sub stopping) i q) ∙ e))

  -- two receivers at rest that were offered the same, in any order and any number of times, lack the same positions, whatever the
  -- packets carried
  pub same : {R Q : Set (Offer K C X)} {s t : View K C X} → Inv P R s → Still P s → Inv P Q t → Still P t → Covered R Q → Covered Q R → (i : ℕ) → miss s i ≡ miss t i
  same {s = s} {t = t} v r w q sub sup i = agree (miss s i) (miss t i) (more w q v.sound sub i) (more v r w.sound sup i)

  -- from any receiver, whatever is taken in and whenever steps are made, nothing is lost of what it had and was offered, if all of that is
  -- unaltered; so at rest the theorems above hold of it
  pub run-inv : (sent : ℕ → X) {s t : View K C X} {os : List (Offer K C X)} → ((p : Offer K C X) → Plus (Has s) os p → Unaltered P sent p) → Runs P s os t → Inv P (Plus (Has s) os) t
  run-inv sent {s} ok r = inv-runs P sent ok (inv-has P s) r

  -- and no check is ever found spoilt
  pub never-spoilt : (sent : ℕ → X) {s : View K C X} {os : List (Offer K C X)} → ((p : Offer K C X) → Plus (Has s) os p → Unaltered P sent p) → Spoiling P s os → ⊥
  never-spoilt sent {s} {os} ok b = unspoilt P sent some (run-inv sent some b.runs).sound b.key b.carries b.spoilt
    where
      some : (p : Offer K C X) → Plus (Has s) b.taken p → Unaltered P sent p
      some p m = ok p (⊎_elim inl (λ n. inr (b.among p n)) m)

  -- two engines, each at its end from one receiver that has only unaltered packets, leave the same packets
  pub engines_agree : (sent : ℕ → X) (s t u : View K C X) → ((p : Offer K C X) → Has s p → Unaltered P sent p)
      → Steps P s t → Still P t → Steps P s u → Still P u → (i : ℕ) → t.slot i ≡ u.slot i
  engines_agree sent s t u ok a p b q i = go (t.slot i) (u.slot i) refl refl
      (same (inv a) p (inv b) q (record { of_media = λ i x m. (x, m); of_check = λ k v m. (v, m) }) (record { of_media = λ i x m. (x, m); of_check = λ k v m. (v, m) }) i)
    where
      known : (p : Offer K C X) → Plus (Has s) [] p → Unaltered P sent p
      known p (inl m) = ok p m
      known p (inr m) = elim m [ ]

      inv : {z : View K C X} → Steps P s z → Inv P (Plus (Has s) []) z
      inv a = run-inv sent known (steps-run P a)

      go : (x y : Option X) → t.slot i ≡ x → u.slot i ≡ y → gone (t.slot i) ≡ gone (u.slot i) → t.slot i ≡ u.slot i
      go none none d e h = d ∙ sym e
      go none (some y) d e h = absurd (true≢false (sym (ap gone d) ∙ h ∙ ap gone e))
      go (some x) none d e h = absurd (true≢false (sym (ap gone e) ∙ sym h ∙ ap gone d))
      go (some x) (some y) d e h = d ∙ ap some (right sent (inv a).sound known i x d ∙ sym (right sent (inv b).sound known i y e)) ∙ sym e
