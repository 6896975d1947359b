-- What stays true as a receiver does what it may: laws of runs and of what offers determine, for any code.
use Rattle.std.specs.Prelude.{◌≡◌, refl, ◌⊎◌, Bool, true, false, ℕ}
use Rattle.std.proofs.Common.{sym, ◌∙◌, ap, inl, inr, ⊎_elim, true≢false}
use Rattle.std.proofs.Math.Option.{Option, none, some}
use mathlib.Core.List.{List, [], ◌∷◌, ◌++◌, Memᴰ}
use Rattle.peel.specs.Group.{total_ext, total-out, solve, None, count-one}
use Rattle.peel.specs.Peel.{Code, sum, Offer, media, check, Set, Plus, Within, Covered, View, gone, miss, Has, Keeps, Releases, Here, Take, Spoilt, Step, Steps, stop, go_on, Runs, done, took, made, Spoiling, Known, received, rebuilt, Stopping, Sound, Unaltered, Inv}

-- a slot that is not empty has a packet
pub there : {X : Type 0} (q : Option X) → gone q ≡ false → (x : X) × (q ≡ some x)
there none e = absurd (true≢false e)
there (some x) e = (x, refl)

-- so a position that is present stays present
pub miss-keeps : {K C X : Type 0} (s t : View K C X) → Keeps s t → (i : ℕ) → miss s i ≡ false → miss t i ≡ false
miss-keeps s t keeps i e = let w = there (s.slot i) e in ap gone (keeps i w.0 w.1)

-- ---- what a receiver may do

module _ {K C X : Type 0} (P : Code K C X) where
  -- an offer that the receiver has already tells it nothing
  pub pass : {p : Offer K C X} {s : View K C X} → Here P p s → Take P p s s
  pass h = record { keeps = λ i x e. e; new = λ i x e. inl e; sub = λ k v e. inl e; release = λ k v e. inl e; here = h }

  -- one after the other
  pub runs_then : {os ps : List (Offer K C X)} {s t u : View K C X} → Runs P s os t → Runs P t ps u → Runs P s (os ++ ps) u
  runs_then done r = r
  runs_then (took a q) r = took a (runs_then q r)
  runs_then (made a q) r = made a (runs_then q r)

  -- no packet is lost
  pub runs-keep : {os : List (Offer K C X)} {s t : View K C X} → Runs P s os t → Keeps s t
  runs-keep done i x e = e
  runs-keep (took a q) i x e = runs-keep q i x (a.keeps i x e)
  runs-keep (made a q) i x e = runs-keep q i x (a.keeps i x e)

  -- steps alone are such a run
  pub steps-run : {s t : View K C X} → Steps P s t → Runs P s [] t
  steps-run stop = done
  steps-run (go_on a q) = made a (steps-run q)

  -- later on, it is found all the same
  pub spoiling_then : {os ps : List (Offer K C X)} {s t : View K C X} → Runs P s os t → Spoiling P t ps → Spoiling P s (os ++ ps)
  spoiling_then {os} {ps} r b = record {
    taken = os ++ b.taken;
    among = λ p m. ⊎_elim (mathlib.Core.List.Memᴰ.append_left ps) (λ n. mathlib.Core.List.Memᴰ.append_right os (b.among p n)) (mathlib.Core.List.Memᴰ.append_cases os m);
    then = b.then;
    runs = runs_then r b.runs;
    key = b.key;
    carries = b.carries;
    spoilt = b.spoilt;
  }

  -- and of more offers
  pub spoiling_more : {os : List (Offer K C X)} (ps : List (Offer K C X)) {s : View K C X} → Spoiling P s os → Spoiling P s (os ++ ps)
  spoiling_more ps b =
      record { taken = b.taken; among = λ p m. mathlib.Core.List.Memᴰ.append_left ps (b.among p m); then = b.then; runs = b.runs; key = b.key; carries = b.carries; spoilt = b.spoilt }

  -- more offers determine no less
  pub known_mono : {R Q : Set (Offer K C X)} → Within R Q → {i : ℕ} {x : X} → Known P R i x → Known P Q i x
  known_mono sub (received m) = received (sub _ m)
  known_mono sub (rebuilt k v f a b m e r q z) = rebuilt k v f a b (sub _ m) e (λ j n. known_mono sub (r j n)) q z

  -- it is one of any fewer packets
  pub stopping-fewer : {R Q : Set (Offer K C X)} {S : ℕ → Bool} → Covered R Q → Stopping P Q S → Stopping P R S
  stopping-fewer c st = record {
    unreceived = λ i x m. let y = c.of_media i x m in st.unreceived i y.0 y.1;
    never-one = λ k v m. let u = c.of_check k v m in st.never-one k u.0 u.1;
  }

  -- no position of a stopping set is determined
  pub known-outside : {R : Set (Offer K C X)} {S : ℕ → Bool} → Stopping P R S → {i : ℕ} {x : X} → Known P R i x → S i ≡ false
  known-outside st (received m) = st.unreceived _ _ m
  known-outside {S = S} st (rebuilt {i} k v f a b m e r q z) = go (S i) refl (λ j n. known-outside st (r j n))
    where
      go : (c : Bool) → S i ≡ c → None S (a ++ b) → S i ≡ false
      go false h n = h
      go true h n = absurd (st.never-one k v m (rw e (count-one S a i b h n)))

  -- any receiver is, if what it has counts as received
  pub sound-has : (s : View K C X) → Sound P (Has s) s
  sound-has s = record { known = λ i x e. received e; kept = λ k v h. h }

  -- more may be received
  pub sound_mono : {R Q : Set (Offer K C X)} {s : View K C X} → Within R Q → Sound P R s → Sound P Q s
  sound_mono sub v = record { known = λ i x e. known_mono sub (v.known i x e); kept = λ k w h. sub _ (v.kept k w h) }

  -- a step keeps it
  pub sound_step : {R : Set (Offer K C X)} {s t : View K C X} → Sound P R s → Step P s t → Sound P R t
  sound_step v st = record {
    known = λ i x e. ⊎_elim (v.known i x)
        (λ q. let r = q.2 in rebuilt q.0 q.1 r.f r.left r.right (v.kept _ _ r.held) r.is (λ j m. v.known j (r.f j) (r.rest j m)) r.adds q.3) (st.new i x e);
    kept = λ k w h. v.kept k w (st.sub k w h);
  }

  -- taking in an offer keeps it, with that offer received
  pub sound-take : {R : Set (Offer K C X)} {p : Offer K C X} {s t : View K C X} → Sound P R s → Take P p s t → Sound P (Plus R (p ∷ [])) t
  sound-take v st = record {
    known = λ i x e. ⊎_elim (λ q. known_mono (λ p. inl) (v.known i x q)) (λ q. received (inr (mathlib.Core.List.Memᴰ.head (sym q)))) (st.new i x e);
    kept = λ k w h. ⊎_elim (λ q. inl (v.kept k w q)) (λ q. inr (mathlib.Core.List.Memᴰ.head (sym q))) (st.sub k w h);
  }

  -- one of a list first, then the rest: the whole list
  pub plus-cons : (R : Set (Offer K C X)) (p : Offer K C X) (os : List (Offer K C X)) → Within (Plus (Plus R (p ∷ [])) os) (Plus R (p ∷ os))
  plus-cons R p os q m = ⊎_elim (λ a. ⊎_elim inl (λ b. inr (mathlib.Core.List.Memᴰ.head (mathlib.Core.List.Memᴰ.eq_of_singleton b))) a) (λ a. inr (mathlib.Core.List.Memᴰ.tail a)) m

  -- and back
  pub cons-plus : (R : Set (Offer K C X)) (p : Offer K C X) (os : List (Offer K C X)) → Within (Plus R (p ∷ os)) (Plus (Plus R (p ∷ [])) os)
  cons-plus R p os q m = ⊎_elim (λ a. inl (inl a)) (λ a. ⊎_elim (λ b. inl (inr (mathlib.Core.List.Memᴰ.head b))) inr (mathlib.Core.List.Memᴰ.cases_cons a)) m

  -- so a run keeps it, with its offers received
  pub sound-runs : {R : Set (Offer K C X)} {os : List (Offer K C X)} {s t : View K C X} → Sound P R s → Runs P s os t → Sound P (Plus R os) t
  sound-runs v done = sound_mono (λ p. inl) v
  sound-runs {R} v (took {p} {os} a r) = sound_mono (plus-cons R p os) (sound-runs {R = Plus R (p ∷ [])} (sound-take v a) r)
  sound-runs v (made a r) = sound-runs (sound_step v a) r

  -- what a receiver has it goes on having
  here-keeps : {s t : View K C X} → Keeps s t → Releases P s t → (p : Offer K C X) → Here P p s → Here P p t
  here-keeps {s} {t} keeps release (media i x) e = miss-keeps s t keeps i e
  here-keeps keeps release (check k v) (inl h) = ⊎_elim (λ g. inl (h.0, g)) inr (release k h.0 h.1)
  here-keeps {s} {t} keeps release (check k v) (inr n) = inr (λ j m. miss-keeps s t keeps j (n j m))

  -- any receiver, if what it has counts as received
  pub inv-has : (s : View K C X) → Inv P (Has s) s
  inv-has s = record { sound = sound-has s; all = here }
    where
      here : (p : Offer K C X) → Has s p → Here P p s
      here (media i x) e = ap gone e
      here (check k v) h = inl (v, h)

  -- two descriptions of what was received
  inv-same : {R Q : Set (Offer K C X)} {s : View K C X} → Within R Q → Within Q R → Inv P R s → Inv P Q s
  inv-same sub sup v = record { sound = sound_mono sub v.sound; all = λ p m. v.all p (sup p m) }

  -- taking in an offer keeps it
  inv-take : {R : Set (Offer K C X)} {p : Offer K C X} {s t : View K C X} → Inv P R s → Take P p s t → Inv P (Plus R (p ∷ [])) t
  inv-take {R} {p} {s} {t} v st = record { sound = sound-take v.sound st; all = here }
    where
      here : (q : Offer K C X) → R q ⊎ Memᴰ q (p ∷ []) → Here P q t
      here q (inl m) = here-keeps st.keeps st.release q (v.all q m)
      here q (inr m) = rw (mathlib.Core.List.Memᴰ.eq_of_singleton m) st.here

  module _ (sent : ℕ → X) where
    -- an unaltered check gives what was sent, from what was sent at its other members
    gives_sent : (k : K) (v : C) (f : ℕ → X) (a : List ℕ) (i : ℕ) (b : List ℕ) (x : X) → Unaltered P sent (check k v) → P.group k ≡ a ++ (i ∷ b)
        → ((j : ℕ) → Memᴰ j (a ++ b) → f j ≡ sent j) → x ≡ P.xor (P.value v) (sum P f (a ++ b)) → x ≡ sent i
    gives_sent k v f a i b x ok e same q =
        let t = total_ext P.xor P.zeros f sent (a ++ b) same in
        let u : P.value v ≡ sum P sent (a ++ (i ∷ b)) = rw e at ok.0 in
        rw (q, t, u, total-out P.xor P.zeros P.laws) (solve P.xor P.zeros P.laws _ _)

    -- unaltered offers determine only what was sent
    pub known-sent : {R : Set (Offer K C X)} → ((p : Offer K C X) → R p → Unaltered P sent p) → {i : ℕ} {x : X} → Known P R i x → x ≡ sent i
    known-sent ok (received m) = ok _ m
    known-sent ok (rebuilt {i} {x} k v f a b m e r q z) = gives_sent k v f a i b x (ok _ m) e (λ j n. known-sent ok (r j n)) q

    module _ {R : Set (Offer K C X)} (ok : (p : Offer K C X) → R p → Unaltered P sent p) where
      -- so no rebuild is spoilt
      pub unspoilt : {s : View K C X} → Sound P R s → (k : K) (w : C) → Spoilt P s k w → ⊥
      unspoilt v k w (i, x, r, e) =
          let u : Unaltered P sent (check k w) = ok (check k w) (v.kept k w r.held) in
          let q = gives_sent k w r.f r.left i r.right x u r.is (λ j m. known-sent ok (v.known j (r.f j) (r.rest j m))) r.adds in
          let m : Memᴰ i (P.group k) = rw r.is (mathlib.Core.List.Memᴰ.append_right r.left (mathlib.Core.List.Memᴰ.head refl)) in
          true≢false (sym (u.1 i m) ∙ ap (P.fits w) (sym q) ∙ e)

      -- and a step loses nothing
      pub inv_step : {s t : View K C X} → Inv P R s → Step P s t → Inv P R t
      inv_step {s} {t} v st = record { sound = sound_step v.sound st; all = λ p m. here-keeps st.keeps release p (v.all p m) }
        where
          release : Releases P s t
          release k w h = ⊎_elim inl (λ z. ⊎_elim inr (λ b. absurd (unspoilt v.sound k w b)) z) (st.release k w h)

    -- nor does any run
    pub inv-runs : {R : Set (Offer K C X)} {os : List (Offer K C X)} → ((p : Offer K C X) → Plus R os p → Unaltered P sent p)
        → {s t : View K C X} → Inv P R s → Runs P s os t → Inv P (Plus R os) t
    inv-runs ok v done = inv-same (λ p. inl) (λ p m. ⊎_elim (λ a. a) (λ a. absurd (mathlib.Core.List.Memᴰ.not-nil a)) m) v
    inv-runs {R} ok v (took {p} {os} a r) = inv-same (plus-cons R p os) (cons-plus R p os) (inv-runs {R = Plus R (p ∷ [])} (λ q m. ok q (plus-cons R p os q m)) (inv-take v a) r)
    inv-runs ok v (made a r) = inv-runs ok (inv_step (λ p m. ok p (inl m)) v a) r
