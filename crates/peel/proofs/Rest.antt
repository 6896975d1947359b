-- Coming to rest: a receiver at rest stays so whatever steps it makes, and any engine that does one thing a round gets there.
use Rattle.std.specs.Prelude.{◌≡◌, ◌⊎◌, Bool, true, false, length}
use Rattle.std.proofs.Math.Path.{refl, ap, fun_ext}
use Rattle.std.proofs.Common.{sym, ◌∙◌, arith}
use Rattle.std.proofs.Math.Logic.{inl, inr, ⊎_elim}
use mathlib.Core.List.{List, [], ◌∷◌, Memᴰ}
use Prim.Native.Nat.{ℕ, zero, suc, ◌+◌, ◌≤◌, ◌<◌}
use Rattle.peel.specs.Group.{count-one}
use Rattle.peel.specs.Peel.{Code, View, gone, miss, Rebuild, Step, Steps, stop, go_on, done, Spoiling}
use Rattle.peel.proofs.Peel.{there, miss-keeps, steps-run, spoiling_then}
use Rattle.peel.specs.Rest.{Still, rounds, Engine}

-- two tests that are false together are equal
pub agree : (b c : Bool) → (b ≡ false → c ≡ false) → (c ≡ false → b ≡ false) → b ≡ c
agree false c f g = sym (f refl)
agree true false f g = g refl
agree true true f g = refl

module _ {K C X : Type 0} (P : Code K C X) where
  -- two runs of steps, one after the other, are a run of steps
  pub steps_then : {s t u : View K C X} → Steps P s t → Steps P t u → Steps P s u
  steps_then stop r = r
  steps_then (go_on a q) r = go_on a (steps_then q r)

  -- at rest a step rebuilds nothing
  still-miss : {s t : View K C X} → Still P s → Step P s t → miss t ≡ miss s
  still-miss {s} {t} r st = fun_ext (λ i. agree (miss t i) (miss s i)
      (λ e. let w = there (t.slot i) e in ⊎_elim (ap gone) (λ q. absurd (never q.2)) (st.new i w.0 w.1))
      (miss-keeps s t st.keeps i))
    where
      never : {k : K} {v : C} {i : ℕ} {x : X} → Rebuild P s k v i x → ⊥
      never {k} {v} {i} q = r k v q.held (rw q.is (count-one (miss s) q.left i q.right q.missing (λ j m. ap gone (q.rest j m))))

  -- a receiver at rest is so after a step
  still_step : {s t : View K C X} → Still P s → Step P s t → Still P t
  still_step r st k v h = rw (still-miss r st) (r k v (st.sub k v h))

  -- and after any number of steps
  pub still-steps : {s t : View K C X} → Still P s → Steps P s t → Still P t
  still-steps r stop = r
  still-steps r (go_on a q) = still-steps (still_step r a) q

module _ {K C X : Type 0} (P : Code K C X) {A : Type 0} (E : Engine P A) where
  -- n rounds keep what a round keeps
  pub rounds-keep : (n : ℕ) (a : A) → E.fit a → E.fit (rounds E.one n a)
  unfolding rounds
  rounds-keep zero a h = h
  rounds-keep (suc n) a h = rounds-keep n (E.one a) (E.keeps a h)

  -- n rounds are a number of steps
  pub rounds-steps : (n : ℕ) (a : A) → E.fit a → Steps P (E.see a) (E.see (rounds E.one n a))
  unfolding rounds
  rounds-steps zero a h = stop
  rounds-steps (suc n) a h = steps_then P (E.steps a h) (rounds-steps n (E.one a) (E.keeps a h))

  -- n rounds count no check as spoilt, or one was found so
  pub rounds-clear : (n : ℕ) (a : A) → E.fit a → (E.spoilt (rounds E.one n a) ≡ E.spoilt a) ⊎ Spoiling P (E.see a) []
  unfolding rounds
  rounds-clear zero a h = inl refl
  rounds-clear (suc n) a h = ⊎_elim
      (λ e. ⊎_elim (λ r. inl (r ∙ e)) (λ b. inr (spoiling_then P (steps-run P (E.steps a h)) b)) (rounds-clear n (E.one a) (E.keeps a h)))
      (λ z. inr (record { taken = []; among = λ p m. m; then = E.see a; runs = done; key = z.0; carries = z.1; spoilt = z.2 })) (E.clear a h)

  -- as many rounds as there is to spend, or more, bring the receiver to rest
  pub rounds-still : (n : ℕ) (a : A) → E.fit a → E.left a ≤ n → Still P (E.see (rounds E.one n a))
  unfolding rounds
  rounds-still zero a h l = ⊎_elim (λ r. r.1) (λ r. absurd (omega (arith, r.0))) (E.work a h)
  rounds-still (suc n) a h l =
      ⊎_elim (λ r. still-steps P r.1 (rounds-steps (suc n) a h)) (λ r. rounds-still n (E.one a) (E.keeps a h) (omega (arith, r.0))) (E.work a h)

  -- a budget of which less was done has brought the receiver to rest
  pub rounds_quiet : (b : ℕ) (a : A) → E.fit a → E.did (rounds E.one b a) < E.did a + b → Still P (E.see (rounds E.one b a))
  unfolding rounds
  rounds_quiet zero a h l = absurd (omega arith)
  rounds_quiet (suc b) a h l =
      ⊎_elim (λ r. still-steps P r.1 (rounds-steps (suc b) a h)) (λ r. rounds_quiet b (E.one a) (E.keeps a h) (omega (arith, r.1))) (E.work a h)

  -- at rest rounds do nothing
  idle : (n : ℕ) (a : A) → E.one a ≡ a → rounds E.one n a ≡ a
  unfolding rounds
  idle zero a e = refl
  idle (suc n) a e = ap (rounds E.one n) e ∙ idle n a e

  -- and one of which all was done has spent as much, so there are no more of those than there was to spend
  pub rounds_spend : (b : ℕ) (a : A) → E.fit a → (E.did (rounds E.one b a) < E.did a + b) ⊎ (E.left (rounds E.one b a) + b ≤ E.left a)
  unfolding rounds
  rounds_spend zero a h = inr (omega arith)
  rounds_spend (suc b) a h = ⊎_elim
      (λ r. inl (let e = idle (suc b) a r.0 in let d : E.did (rounds E.one b (E.one a)) ≡ E.did a = ap E.did e in omega (arith, d)))
      (λ r. ⊎_elim (λ l. inl (omega (arith, l, r.1))) (λ l. inr (omega (arith, l, r.0))) (rounds_spend b (E.one a) (E.keeps a h))) (E.work a h)

  -- of calls with these budgets, one after the other, some call does less than its budget
  pub data Quiet : List ℕ → A → Type 0 where
    now : {b : ℕ} {bs : List ℕ} {a : A} → E.did (rounds E.one b a) < E.did a + b → Quiet (b ∷ bs) a
    later : {b : ℕ} {bs : List ℕ} {a : A} → Quiet bs (rounds E.one b a) → Quiet (b ∷ bs) a

  -- one call more than there is to spend is enough, if none has a budget of nothing
  pub budgets_quiet : (bs : List ℕ) (a : A) → E.fit a → ((b : ℕ) → Memᴰ b bs → 0 < b) → E.left a < length bs → Quiet bs a
  budgets_quiet [] a h some l = absurd (omega arith)
  budgets_quiet (b ∷ bs) a h some l = ⊎_elim now
      (λ q. later (budgets_quiet bs (rounds E.one b a) (rounds-keep b a h) (λ c m. some c (Memᴰ.tail m)) (omega (arith, q, some b (Memᴰ.head refl))))) (rounds_spend b a h)
