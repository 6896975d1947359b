-- A list of offers as a run of the theory that keeps the invariant of Fine.antt.
use Rattle.std.specs.Prelude.{◌≡◌, ◌≢◌, ◌⊎◌, Bool, true, false, cond, ℕ, ◌≤◌, length}
use Rattle.std.proofs.Math.Path.{refl}
use Rattle.std.proofs.Common.{sym, ap, ◌∙◌, subst, inl, inr, ⊎_elim, true≢false, arith}
use Rattle.std.proofs.Math.Bool.{and-true}
use mathlib.Core.List.Memᴰ
use mathlib.Core.List.{List, [], ◌∷◌, ◌++◌, map, Memᴰ}
use Rattle.answer.specs.declared.Answer.{Answer}
use Rattle.answer.specs.Number.{number_of, spoilt_of}
use Rattle.sequence.specs.Lists.{up_to}
use Rattle.rtp.specs.Fec.{column, row, snbase}
use Rattle.window.specs.declared.Window.{Window}
use Rattle.window.specs.Limits.{rows, parity_room}
use Rattle.window.specs.Store.{Store, record_at}
use Rattle.window.specs.Group.{position, inside}
use Rattle.window.specs.Order.{is_in_use}
use Rattle.calls.specs.Content.{Recovery}
use Rattle.calls.specs.State.{recount}
use Rattle.calls.specs.Call.{Outcome}
use Rattle.calls.proofs.Standing.{standing-good}
use Rattle.peel.specs.Peel as Theory
use Rattle.peel.proofs.Peel as TheoryLaws
use Rattle.guarantee.proofs.Ranges.{up_to-mem, keep-mem}
use Rattle.guarantee.specs.Packets.{Packet}
use Rattle.guarantee.specs.View.{code, view}
use Rattle.guarantee.proofs.Recount.{fills-on, holds_on, unaltered-on}
use Rattle.guarantee.specs.Order.{standing}
use Rattle.guarantee.proofs.Order.{limits, set_up_passes}
use Rattle.guarantee.specs.Lying.{Lying}
use Rattle.guarantee.proofs.Lying.{lying-then, lying-more}
use Rattle.guarantee.specs.Fine.{Opened, Fine, Goes}
use Rattle.guarantee.proofs.Fine.{fine-media, fine-parity, refused-parity}
use Rattle.guarantee.specs.Demand3.{Port, mediaPort, columnPort, rowPort, Offer, call_of, offered, run, answers, Stretch, Fills, UnalteredOn, Name, parity_name, name_on, name_of, names_of, group_named, distinct_groups}
use Rattle.guarantee.specs.Start.{media_held, parity_held, every, counts, counted, received_from, GivenFrom}
use Rattle.guarantee.specs.Sent.{seen_on, seen}
use Rattle.guarantee.proofs.Sent.{media-read, parity-read, position-number}
use Rattle.guarantee.proofs.Names.{distinct_has}
use Rattle.guarantee.specs.Run.{Ready}

-- ---- any list
module _ (w : Window) (D : List (ℕ × ℕ)) where
  -- an offer that keeps the invariant, and is a run of the theory
  abbrev Keeping : Offer → Type 1
  Keeping o = (v : Window) (s : Store) → Fine w D v s → Goes w D (seen w o ∷ []) s (offered o v s)

  -- one that does not count is refused, and leaves all as it was
  outside-refused : (p : Port) (g : List ℕ) → every (λ k. inside w k.0 k.1) (group_named (name_on p g)) ≡ false → {v : Window} {s : Store} → Fine w D v s → Goes w D [] s (call_of p v g s)
  outside-refused mediaPort g e f = absurd (true≢false e)
  outside-refused columnPort g e f = refused-parity column g (rw and-true at e) f
  outside-refused rowPort g e f = refused-parity row g (rw and-true at e) f

  -- what a list of offers leaves: the invariant, by a run of the theory; where an answer counts a check as spoilt, one was found so, and where
  -- one is 18, a check lies
  pub record Arrived (os : List (Theory.Offer (ℕ × ℕ) Recovery Packet)) (s : Store) (answered : List Answer) (x : Outcome) : Type 1 where
    pub fine : Fine w D x.window x.store
    pub runs : Theory.Runs (code w) (view w s) os (view w x.store)
    pub clear : (a : Answer) → Memᴰ a answered → (spoilt_of a ≡ 0) ⊎ Theory.Spoiling (code w) (view w s) os
    pub believed : (a : Answer) → Memᴰ a answered → (number_of a ≢ 18) ⊎ Lying w s os

  -- a call, then a list
  call_then : {os ps : List (Theory.Offer (ℕ × ℕ) Recovery Packet)} {s : Store} {answered : List Answer} {x y : Outcome}
      → Goes w D os s x → Arrived ps x.store answered y → Arrived (os ++ ps) s (x.answer ∷ answered) y
  call_then {os} {ps} {s} {answered} {x} a b = record {
    fine = b.fine;
    runs = TheoryLaws.runs_then (code w) a.runs b.runs;
    clear = λ z m. ⊎_elim (λ e. ⊎_elim (λ c. inl (ap spoilt_of e ∙ c)) (λ c. inr (TheoryLaws.spoiling_more (code w) ps c)) a.clear)
        (λ n. ⊎_elim inl (λ c. inr (TheoryLaws.spoiling_then (code w) a.runs c)) (b.clear z n)) (Memᴰ.cases_cons m);
    believed = λ z m. ⊎_elim (λ e. ⊎_elim (λ c. inl (λ q. c (ap number_of (sym e) ∙ q))) (λ c. inr (lying-more ps c)) a.believed)
        (λ n. ⊎_elim inl (λ c. inr (lying-then a.runs c)) (b.believed z n)) (Memᴰ.cases_cons m);
  }

  -- a list of which each that counts keeps the invariant
  fine-run : (offers : List Offer) → ((o : Offer) → Memᴰ o (counted w offers) → Keeping o)
      → (x : Outcome) → Fine w D x.window x.store → Arrived (map (seen w) (counted w offers)) x.store (answers x offers) (run x offers)
  unfolding run answers
  fine-run [] each x f = record { fine = f; runs = Theory.done; clear = λ a m. absurd (Memᴰ.not-nil m); believed = λ a m. absurd (Memᴰ.not-nil m) }
  fine-run (o ∷ offers) each x f = go (counts w o) refl each (fine-run offers)
    where
      next : Outcome
      next = offered o x.window x.store

      go : (b : Bool) → counts w o ≡ b → ((p : Offer) → Memᴰ p (cond b (o ∷ counted w offers) (counted w offers)) → Keeping p)
          → (((p : Offer) → Memᴰ p (counted w offers) → Keeping p) → (y : Outcome) → Fine w D y.window y.store → Arrived (map (seen w) (counted w offers)) y.store (answers y offers) (run y offers))
          → Arrived (map (seen w) (cond b (o ∷ counted w offers) (counted w offers))) x.store (next.answer ∷ answers next offers) (run next offers)
      go true e each rest = let a = each o (Memᴰ.head refl) x.window x.store f in call_then a (rest (λ p m. each p (Memᴰ.tail m)) next a.fine)
      go false e each rest = let a = outside-refused o.port o.datagram e f in call_then a (rest each next a.fine)

-- an unaltered offer whose group is in D keeps the invariant: there is room for it
fine-offer : {w : Window} (O : Opened w) {t : Stretch} → Fills w t → {D : List (ℕ × ℕ)} → length D ≤ parity_room w → (p : Port) (g : List ℕ) → UnalteredOn w t p g
    → ((stream snbase : ℕ) → name_on p g ≡ parity_name stream snbase → Memᴰ (stream, snbase) D) → (v : Window) (s : Store) → Fine w D v s → Goes w D (seen_on w p g ∷ []) s (call_of p v g s)
fine-offer {w} O F enough mediaPort g u key v s f =
    let L = limits w O.based O.faultless in
    let r = media-read L F g u in
    fine-media O enough g r.faultless (rw (ap (position w) r.number ∙ position-number L r.place r.below) r.below) f
fine-offer {w} O F enough columnPort g u key v s f =
    let r = parity-read (limits w O.based O.faultless) F column (omega arith) g u in
    fine-parity O enough column (omega arith) g r.faultless r.within (key column (snbase g) refl) f
fine-offer {w} O F enough rowPort g u key v s f =
    let r = parity-read (limits w O.based O.faultless) F row (omega arith) g u in
    fine-parity O enough row (omega arith) g r.faultless r.within (key row (snbase g) refl) f

-- that is what is given
pub ready_at : (w : Window) (a u : ℕ) (x : Outcome) {t : Stretch} {offers : List Offer} → x.window ≡ recount w a u → GivenFrom x t offers → Ready w a u x.store t offers
ready_at w a u x {t} {offers} e G =
    let H : GivenFrom (record { answer = x.answer; window = recount w a u; store = x.store }) t offers =
    subst (λ v. GivenFrom (record { answer = x.answer; window = v; store = x.store }) t offers) e G in
    let v : Window = recount w a u in
    record {
      within = record { based = H.start.base-fits; faultless = set_up_passes v x.store H.start.passes };
      fills = fills-on v w.present w.in_use t H.start.fills;
      ordered = standing w a u x.store (standing-good v x.store 0 0 H.start.passes);
      holds = holds_on v w.present w.in_use t H.start.holds;
      unaltered = λ o m. unaltered-on v w.present w.in_use t o (H.unaltered o m);
      few_groups = H.few_groups;
    }

-- the list is a run from there
pub arrives : {w : Window} {a u : ℕ} {t : Stretch} {offers : List Offer} (x : Outcome) → x.window ≡ recount w a u → Ready w a u x.store t offers
    → Arrived w (distinct_groups (received_from w x.store offers)) (map (seen w) (counted w offers)) x.store (answers x offers) (run x offers)
arrives {w} {a} {u} {offers = offers} x e R = fine-run w received_groups offers
    (λ o m. fine-offer R.within R.fills R.few_groups o.port o.datagram (R.unaltered o m)
    (λ a b e. distinct_has received a b (Memᴰ.append_right (media_held w x.store ++ parity_held w x.store) (Memᴰ.cast (sym e) (Memᴰ.map name_of m))))) x
    (record {
      present = a;
      used = u;
      window = e;
      order = R.ordered;
      keyed = λ r h e. distinct_has received (record_at x.store r).stream (record_at x.store r).snbase (Memᴰ.append_left (names_of (counted w offers)) (Memᴰ.append_right (media_held w x.store)
          (Memᴰ.map (λ r. parity_name (record_at x.store r).stream (record_at x.store r).snbase) (keep-mem (is_in_use w x.store) (up_to (rows w)) r e (up_to-mem (rows w) r h)))));
    })
  where
    received : List Name
    received = received_from w x.store offers

    received_groups : List (ℕ × ℕ)
    received_groups = distinct_groups received
