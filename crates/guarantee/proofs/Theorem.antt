-- Demand 3 from any start (Start.antt) and from an opening (Demand3.antt), proved: a list is a run of the theory that keeps the invariant
-- of Fine.antt, and the theory's theorems give the conclusions.
use Rattle.std.specs.Prelude.{◌≡◌, refl, ◌≢◌, ◌⊎◌, Bool, true, false, ◌&&◌, ℕ, ◌<◌, ◌≤◌, length, take, ltb}
use Rattle.std.proofs.Common.{sym, ap, ◌∙◌, subst, inl, inr, ⊎_elim, true≢false, arith, eqb-true, lt-ltb, ltb-true}
use mathlib.Core.List.{List, [], ◌∷◌, ◌++◌, map, Memᴰ}
use Rattle.answer.specs.declared.Answer.{Answer}
use Rattle.answer.specs.Number.{number_of, spoilt_of}
use Rattle.sequence.proofs.Lists.{and_split as both}
use Rattle.sequence.specs.Wrap.{number_at}
use Rattle.rtp.specs.Fec.{column, row, snbase}
use Rattle.window.specs.declared.Window.{Window}
use Rattle.window.specs.Limits.{width, parity_room}
use Rattle.window.specs.Store.{Store, length_at, payload_at}
use Rattle.window.specs.Group.{group, inside, is_missing}
use Rattle.calls.specs.Content.{Recovery}
use Rattle.calls.specs.State.{recount}
use Rattle.calls.specs.Call.{Outcome, standing_tests, asked, cleared, opened}
use Rattle.calls.proofs.Passed.{none_first}
use Rattle.peel.specs.Peel as Theory
use Rattle.peel.specs.Rest.{Still}
use Rattle.peel.proofs.Theorem.{stopping, missing_iff, same, never-spoilt}
use Rattle.guarantee.proofs.Ranges.{decide, keep_ext, count-keep}
use Rattle.guarantee.specs.Packets.{Packet}
use Rattle.guarantee.proofs.Lengths.{padded-front, units_le}
use Rattle.guarantee.specs.View.{Limits, group_of, code, view, Good}
use Rattle.guarantee.proofs.View.{group-lt, miss-mark, mark-one}
use Rattle.guarantee.proofs.Recount.{fills-on, holds_on, unaltered-on}
use Rattle.guarantee.specs.Order.{stands}
use Rattle.guarantee.proofs.Order.{limits}
use Rattle.guarantee.proofs.Accepted.{rests}
use Rattle.guarantee.specs.Demand3.{Port, mediaPort, columnPort, rowPort, Offer, offered, run, answers, Stretch, Fills, UnalteredOn, Unaltered, Name, media_name, name_on, names_of, Received, group_named, distinct_groups, Given, mark_at, Hidden, Demand3, Claim, SamePackets, ClaimSame}
use Rattle.guarantee.specs.Start.{Holds, Start, held_and, every, counted, received_from, GivenFrom, ClaimFrom, ClaimSameFrom, ClaimChain}
use Rattle.guarantee.specs.Sent.{sent, seen}
use Rattle.guarantee.proofs.Sent.{parity-read}
use Rattle.guarantee.specs.Names.{Got}
use Rattle.guarantee.proofs.Names.{media_in, check_in, in_media, in_check}
use Rattle.guarantee.proofs.Kept as Kept
use Rattle.guarantee.specs.Run.{Ready}
use Rattle.guarantee.proofs.Run.{Arrived, ready_at, arrives}
use Rattle.guarantee.proofs.Opening.{opening, opened-start, none-held}

-- ---- what holds after a run
module _ {w : Window} {a u : ℕ} {s : Store} {t : Stretch} {offers : List Offer} (R : Ready w a u s t offers) {D : List (ℕ × ℕ)} {y : Outcome}
    {answered : List Answer} (arrived : Arrived w D (map (seen w) (counted w offers)) s answered y) where
  -- the window is within its limits
  L : Limits w
  L = limits w R.within.based R.within.faultless

  -- what was received is unaltered
  unaltered : (p : Theory.Offer (ℕ × ℕ) Recovery Packet) → Got w s (counted w offers) p → Theory.Unaltered (code w) (sent w t) p
  unaltered = Kept.unaltered L R.fills R.ordered.good R.holds R.unaltered y.store arrived.runs

  -- nothing of it was lost
  inv : Theory.Inv (code w) (Got w s (counted w offers)) (view w y.store)
  inv = Kept.inv L R.fills R.ordered.good R.holds R.unaltered y.store arrived.runs

  -- and no answer counts a check as spoilt
  unspoilt : (a : Answer) → Memᴰ a answered → spoilt_of a ≡ 0
  unspoilt a m = ⊎_elim (λ e. e) (λ b. absurd (never-spoilt (code w) (sent w t) unaltered b)) (arrived.clear a m)

  -- or is 18
  believed : (a : Answer) → Memᴰ a answered → number_of a ≢ 18
  believed a m e = ⊎_elim (λ n. n e) (Kept.never-lying L R.fills R.ordered.good R.holds R.unaltered) (arrived.believed a m)

  -- all that the store holds is unaltered again
  holds_again : Holds w t y.store
  holds_again = Kept.holds_again L R.fills R.ordered.good R.holds R.unaltered y.store arrived.runs

  -- so it is a start, with the counts that it has then
  start_again : Start (recount w arrived.fine.present arrived.fine.used) t y.store
  start_again = record {
    base-fits = R.within.based;
    fills = fills-on w arrived.fine.present arrived.fine.used t R.fills;
    passes = none_first (standing_tests (recount w arrived.fine.present arrived.fine.used) y.store 0 0)
        (stands w arrived.fine.present arrived.fine.used y.store R.within.faultless arrived.fine.order);
    holds = holds_on w arrived.fine.present arrived.fine.used t holds_again;
  }

  -- what is hidden is a stopping set of the theory
  hidden_stopping : (S : ℕ → Bool) → Hidden w (received_from w s offers) S → Theory.Stopping (code w) (Got w s (counted w offers)) S
  hidden_stopping S h = record {
    unreceived = λ i x m. outside i (λ e. h.unreceived i e (media_in L R.fills R.ordered.good R.unaltered i x m).1);
    never-one = λ k x m e. h.never-one k.0 k.1 (check_in L R.fills R.ordered.good R.unaltered k x m).1 (sym (count-keep S (group_of w k)) ∙ e);
  }
    where
      outside : (i : ℕ) → (S i ≡ true → ⊥) → S i ≡ false
      outside i n = ⊎_elim (λ e. absurd (n e)) (λ e. e) (decide (S i))

  -- where the store is at rest
  module _ (still : Still (code w) (view w y.store)) where
    -- what is missing is hidden
    missing_hidden : Hidden w (received_from w s offers) (λ i. ltb i w.n && Theory.miss (view w y.store) i)
    missing_hidden = record {
      of_stretch = λ i e. ltb-true i w.n (both (ltb i w.n) (Theory.miss (view w y.store) i) e).0;
      unreceived = λ i e m. let b = both (ltb i w.n) (Theory.miss (view w y.store) i) e in
          let x = in_media L R.fills R.ordered.good R.unaltered i (ltb-true i w.n b.0) m in
          true≢false (sym b.1 ∙ inv.all (Theory.media i x.0) x.1);
      never-one = λ stream snbase m e. let c = in_check L R.fills R.ordered.good R.unaltered stream snbase m in
          let h = check_in L R.fills R.ordered.good R.unaltered (stream, snbase) c.0 c.1 in
          (stopping (code w) inv still).never-one (stream, snbase) c.0 c.1
          (count-keep (Theory.miss (view w y.store)) (group w stream snbase)
          ∙ ap length (keep_ext (Theory.miss (view w y.store)) kept (group w stream snbase) (inner stream snbase h.0)) ∙ e);
    }
      where
        kept : ℕ → Bool
        kept i = ltb i w.n && Theory.miss (view w y.store) i

        inner : (stream snbase : ℕ) → inside w stream snbase ≡ true → (i : ℕ) → Memᴰ i (group w stream snbase) → Theory.miss (view w y.store) i ≡ kept i
        inner stream snbase h i m = rw (lt-ltb i w.n (group-lt w stream snbase h i m))

    -- demand 3
    conclusions : Demand3 w t (received_from w s offers) answered y.store
    conclusions = record {
      mark = λ i h. ⊎_elim (λ e. inl (eqb-true (mark_at y.store i) 0 e)) (λ e. inr (mark-one arrived.fine.order.good i h e)) (decide (is_missing y.store.marks i));
      present = holds_again.media;
      unspoilt = unspoilt;
      believed = believed;
      missing = λ i h. (
        λ e. (λ j. ltb j w.n && Theory.miss (view w y.store) j, missing_hidden, rw (lt-ltb i w.n h, miss-mark w y.store i h, e)),
        λ q. eqb-true (mark_at y.store i) 0 (sym (miss-mark w y.store i h) ∙ (missing_iff (code w) inv still i).1 (q.0, hidden_stopping q.0 q.1, q.2)),
      );
    }

  -- as it is after every offer
  at_rest : Still (code w) (view w y.store)
  at_rest = rests arrived.fine.order.good arrived.fine.order.waits

-- ---- from any start
-- demand 3 from any start
pub demand3-from : ClaimFrom
demand3-from x t offers G =
    let R = ready_at x.window x.window.present x.window.in_use x refl G in
    let A = arrives x refl R in
    record {
      set_up = rw A.fine.window;
      demand = conclusions R A (at_rest R A);
      start = rw A.fine.window (start_again R A);
    }

-- lists, one after the other
run-append : (x : Outcome) (offers more : List Offer) → run x (offers ++ more) ≡ run (run x offers) more
unfolding run
run-append x [] more = refl
run-append x (o ∷ offers) more = run-append (offered o x.window x.store) offers more

-- lists chain
pub demand3_chain : ClaimChain
demand3_chain x t offers more G ok few =
    let a = demand3-from x t offers G in
    rw (run-append x offers more) (demand3-from (run x offers) t more (record {
      start = a.start;
      unaltered = λ o m. subst (λ v. (o : Offer) → Memᴰ o (counted v more) → Unaltered v t o) (sym a.set_up) (λ o m. unaltered-on x.window (run x offers).window.present (run x offers).window.in_use t o (ok o m)) o m;
      few_groups = subst (λ v. length (distinct_groups (received_from v (run x offers).store more)) ≤ parity_room v) (sym a.set_up) few;
    }))

-- ---- two lists of the same packets
-- a packet of one list is in the other, whatever it carries there
covered : {w : Window} (L : Limits w) {t u : Stretch} (F : Fills w t) (E : Fills w u) {a b c d : ℕ} {s r : Store} (G : Good w a b s) (H : Good w c d r) {offers others : List Offer}
    (ok : (o : Offer) → Memᴰ o offers → Unaltered w t o) (ko : (o : Offer) → Memᴰ o others → Unaltered w u o)
    → ((x : Name) → Received (held_and w s offers) x → Received (held_and w r others) x) → Theory.Covered (Got w s offers) (Got w r others)
covered {w} L F E G H ok ko sub = record {
  of_media = λ i x m. let z = media_in L F G ok i x m in in_media L E H ko i z.0 (sub _ z.1);
  of_check = λ k c m. in_check L E H ko k.0 k.1 (sub _ (check_in L F G ok k c m).1);
}

-- from any starts of the same set-up numbers
pub demand3-same-from : ClaimSameFrom
demand3-same-from x y t u offers others G H e names i h = go ((conclusions R A (at_rest R A)).mark i h)
    ((conclusions Q B (at_rest Q B)).mark i h)
  where
    w : Window
    w = x.window

    R : Ready w w.present w.in_use x.store t offers
    R = ready_at w w.present w.in_use x refl G

    Q : Ready w y.window.present y.window.in_use y.store u others
    Q = ready_at w y.window.present y.window.in_use y e H

    A : Arrived w (distinct_groups (received_from w x.store offers)) (map (seen w) (counted w offers)) x.store (answers x offers) (run x offers)
    A = arrives x refl R

    B : Arrived w (distinct_groups (received_from w y.store others)) (map (seen w) (counted w others)) y.store (answers y others) (run y others)
    B = arrives y e Q

    packets : SamePackets (received_from w x.store offers) (received_from w y.store others)
    packets = subst (λ v. SamePackets (received_from w x.store offers) (received_from v y.store others)) e names

    missing : is_missing (run x offers).store.marks i ≡ is_missing (run y others).store.marks i
    missing =
        sym (miss-mark w (run x offers).store i h)
        ∙ same (code w) (inv R A) (at_rest R A)
        (inv Q B) (at_rest Q B)
        (covered (L R A) R.fills Q.fills R.ordered.good Q.ordered.good R.unaltered Q.unaltered (λ z. (packets z).0))
        (covered (L R A) Q.fills R.fills Q.ordered.good R.ordered.good Q.unaltered R.unaltered (λ z. (packets z).1)) i
        ∙ miss-mark w (run y others).store i h

    go : (mark_at (run x offers).store i ≡ 0) ⊎ (mark_at (run x offers).store i ≡ 1) → (mark_at (run y others).store i ≡ 0) ⊎ (mark_at (run y others).store i ≡ 1)
        → mark_at (run x offers).store i ≡ mark_at (run y others).store i
    go (inl a) b = a ∙ sym (eqb-true (mark_at (run y others).store i) 0 (sym missing ∙ rw a))
    go (inr a) (inl b) = eqb-true (mark_at (run x offers).store i) 0 (missing ∙ rw b) ∙ sym b
    go (inr a) (inr b) = a ∙ sym b

-- ---- from an opening
-- an unaltered packet counts
unaltered-counts : {w : Window} → Limits w → {t : Stretch} → Fills w t → (p : Port) (g : List ℕ) → UnalteredOn w t p g → every (λ k. inside w k.0 k.1) (group_named (name_on p g)) ≡ true
unaltered-counts L F mediaPort g u = refl
unaltered-counts L F columnPort g u = rw (parity-read L F column (omega arith) g u).within
unaltered-counts L F rowPort g u = rw (parity-read L F row (omega arith) g u).within

-- so all of a list of them does
all-count : {w : Window} → Limits w → {t : Stretch} → Fills w t → (offers : List Offer) → ((o : Offer) → Memᴰ o offers → Unaltered w t o) → counted w offers ≡ offers
all-count L F [] ok = refl
all-count L F (o ∷ offers) ok = rw (unaltered-counts L F o.port o.datagram (ok o (Memᴰ.head refl))) (ap (λ l. o ∷ l) (all-count L F offers (λ p m. ok p (Memᴰ.tail m))))

module _ {w : Window} {lent : Store} {t : Stretch} {offers : List Offer} (a : w.present ≡ 0) (u : w.in_use ≡ 0) (G : Given w lent t offers) where
  -- what is received is what is in the list
  received_list : received_from w (cleared w lent) offers ≡ names_of offers
  received_list = none-held w lent offers ∙ ap names_of (all-count (limits w G.base-fits (opening w lent G.fresh).0) G.fills offers G.unaltered)

  -- what demand 3 gives is such a start
  given-from : GivenFrom (opened w lent) t offers
  given-from =
      let e = opening w lent G.fresh in
      rw e.1 (record {
        start = opened-start w lent t G.base-fits G.fills e.0 a u;
        unaltered = rw (all-count (limits w G.base-fits e.0) G.fills offers G.unaltered) G.unaltered;
        few_groups = rw received_list G.few_groups;
      })

-- demand 3
pub demand3 : Claim
demand3 base ssrc l d p n k lent t offers G =
    let w : Window = asked base ssrc l d p n k in
    let e = opening w lent G.fresh in
    let z : Demand3 (opened w lent).window t (received_from (opened w lent).window (opened w lent).store offers) (answers (opened w lent) offers) (run (opened w lent) offers).store =
    (demand3-from (opened w lent) t offers (given-from refl refl G)).demand in
    rw (← received_list refl refl G) (subst (λ x. Demand3 x.window t (received_from x.window x.store offers) (answers (opened w lent) offers) (run (opened w lent) offers).store) e.1 z)

-- demand 3, of two lists
pub demand3-same : ClaimSame
demand3-same base ssrc l d p n k lent other t u offers others G H names i h =
    let w : Window = asked base ssrc l d p n k in
    let e = opening w lent G.fresh in
    let f = opening w other H.fresh in
    let a : received_from (opened w lent).window (opened w lent).store offers ≡ names_of offers = ap (λ x. received_from x.window x.store offers) e.1 ∙ received_list refl refl G in
    let b : received_from (opened w other).window (opened w other).store others ≡ names_of others = ap (λ x. received_from x.window x.store others) f.1 ∙ received_list refl refl H in
    demand3-same-from (opened w lent) (opened w other) t u offers others (given-from refl refl G) (given-from refl refl H) (rw (e.1, f.1))
    (rw (a, b) names) i (rw e.1 h)

-- so a media packet that was received is present
pub received_present : {w : Window} {t : Stretch} {received : List Name} {answered : List Answer} {s : Store} → Demand3 w t received answered s
    → (i : ℕ) → i < w.n → Received received (media_name (number_at width w.base i)) → mark_at s i ≡ 1
received_present A i h m = ⊎_elim (λ e. let q = (A.missing i h).0 e in absurd (q.1.unreceived i q.2 m)) (λ e. e) (A.mark i h)

-- and a packet that is present has the payload that was sent, at its true length
pub payload-sent : {w : Window} {t : Stretch} {received : List Name} {answered : List Answer} {s : Store} → Fills w t → Demand3 w t received answered s
    → (i : ℕ) → i < w.n → mark_at s i ≡ 1 → take (length_at s i) (payload_at w s i) ≡ (t i).payload
payload-sent {w} {t} F A i h e =
    let q = A.present i h e in
    ap (λ c. take c.length c.payload) q ∙ padded-front w.p (t i).payload (units_le w.p w.p (length (t i).payload) (F.size i h))
