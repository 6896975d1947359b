-- The invariant of a run: the store is in order, and the groups of its parity in hand are among those that there is room for. Every
-- faultless offer keeps it, and is a run of the theory.
use Rattle.std.specs.Prelude.{◌≡◌, refl, ◌≢◌, ◌⊎◌, Bool, true, false, ◌&&◌, ℕ, ◌<◌, ◌≤◌, length, eqb}
use Rattle.std.proofs.Common.{sym, ap, ◌∙◌, subst, inl, inr, ⊎_elim, true≢false, arith, eqb-true}
use mathlib.Core.List.Memᴰ
use mathlib.Core.List.{List, [], ◌∷◌, Memᴰ}
use Rattle.answer.specs.First.{first, None}
use Rattle.answer.specs.Number.{number_of, spoilt_of}
use Rattle.sequence.specs.Lists.{up_to, any}
use Rattle.sequence.proofs.Lists.{any_false}
use Rattle.sequence.proofs.Lists.{and_split as both}
use Rattle.rtp.specs.Rtp.{sequence_number}
use Rattle.rtp.specs.Fec.{snbase}
use Rattle.rtp.specs.Faults.{media_tests, parity_tests}
use Rattle.window.specs.declared.Window.{Window}
use Rattle.window.specs.Limits.{rows, parity_room}
use Rattle.window.specs.Store.{Store, record_at}
use Rattle.window.specs.Group.{position, group, inside, is_missing}
use Rattle.window.specs.Order.{is_in_use}
use Rattle.calls.specs.Content.{Recovery, recovery_at}
use Rattle.calls.specs.State.{recount}
use Rattle.calls.specs.Call.{Outcome, holds, contradicts, parity_offer_tests, offered_media, offered_parity}
use Rattle.calls.proofs.Passed.{media-passed, parity-passed, media-passes, parity-passes}
use Rattle.peel.specs.Peel.{Offer, check, Full, Here, done, took}
use Rattle.peel.proofs.Peel.{pass, sound-has, sound-runs}
use Rattle.guarantee.specs.Ranges.{Out}
use Rattle.guarantee.proofs.Ranges.{decide, any_none, any_some, up_to-lt, take_out, pigeon}
use Rattle.guarantee.specs.Packets.{Packet}
use Rattle.guarantee.specs.View.{code, check_at, Held, view}
use Rattle.guarantee.proofs.View.{group-lt, miss-mark}
use Rattle.guarantee.specs.Order.{stands}
use Rattle.guarantee.specs.Accepted.{Settled}
use Rattle.guarantee.specs.Lying.{Lying}
use Rattle.guarantee.proofs.Lying.{media-believed, parity-lies, contradicted, lying_now}
use Rattle.guarantee.specs.Offers.{media_seen, parity_seen}
use Rattle.guarantee.proofs.Offers.{is_holder, media-kept, parity-kept, media-accepted, parity-accepted}
use Rattle.guarantee.specs.Fine.{Opened, Fine, Goes}

module _ {D : List (ℕ × ℕ)} (p : Offer (ℕ × ℕ) Recovery Packet) (key : (k : ℕ × ℕ) (c : Recovery) → p ≡ check k c → Memᴰ k D) where
  -- an offer that tells nothing new is passed over
  passed : {w : Window} {s : Store} {x : Outcome} → Fine w D x.window s → x.store ≡ s → spoilt_of x.answer ≡ 0 → Here (code w) p (view w s) → (number_of x.answer ≢ 18) ⊎ Lying w s (p ∷ [])
      → Goes w D (p ∷ []) s x
  passed {w} {s} f e z h b = rw e (record { fine = f; runs = took (pass (code w) h) done; clear = inl z; believed = b })

  -- an accepted offer keeps the invariant: parity in hand was in hand, or is the one offered
  accepted : {w v : Window} {s : Store} → Fine w D v s → {a more : ℕ} {x : Outcome} → Settled w a s p more x → Goes w D (p ∷ []) s x
  accepted {w} {s = s} f {x = x} t = record {
    fine = record { present = t.present; used = t.used; window = t.window; order = t.order; keyed = keyed-on };
    runs = t.runs;
    clear = ⊎_elim (λ z. inl (ap spoilt_of t.answer ∙ z)) inr t.clear;
    believed = inl (λ e. let z = ap number_of t.answer in omega arith);
  }
    where
      keyed-on : (r : ℕ) → r < rows w → is_in_use w x.store r ≡ true → Memᴰ (check_at x.store r) D
      keyed-on r h e = ⊎_elim (λ (q : Held w s (check_at x.store r) (recovery_at w x.store r)). Memᴰ.cast (sym q.names) (f.keyed q.at q.below q.used))
          (λ q. key (check_at x.store r) (recovery_at w x.store r) (sym (Memᴰ.eq_of_singleton q)))
          ((sound-runs (code w) (sound-has (code w) (view w s)) t.runs).kept (check_at x.store r) (recovery_at w x.store r)
          (record { at = r; below = h; used = e; names = refl; carries = refl }))

-- the window value in its normal form
refresh : {w : Window} {D : List (ℕ × ℕ)} {v : Window} {s : Store} (f : Fine w D v s) → Fine w D (recount w f.present f.used) s
refresh f = record { present = f.present; used = f.used; window = refl; order = f.order; keyed = f.keyed }

module _ {w : Window} (O : Opened w) {D : List (ℕ × ℕ)} (enough : length D ≤ parity_room w) where
  -- a media datagram without a fault, at a position of the window
  pub fine-media : {v : Window} {s : Store} (g : List ℕ) → None (media_tests w.p g) → position w (sequence_number g) < w.n → Fine w D v s → Goes w D (media_seen w g ∷ []) s (offered_media v g s)
  fine-media {v} {s} g faultless h f = subst (λ z. Goes w D (media_seen w g ∷ []) s (offered_media z g s)) (sym f.window) (go (decide (is_missing s.marks i)))
    where
      i : ℕ
      i = position w (sequence_number g)

      x : Window
      x = recount w f.present f.used

      key : (k : ℕ × ℕ) (c : Recovery) → media_seen w g ≡ check k c → Memᴰ k D
      key k c e = absurd (let z : ◌≡◌ {A = ℕ} 0 1 = cc in omega arith)

      go : (is_missing s.marks i ≡ true) ⊎ (is_missing s.marks i ≡ false) → Goes w D (media_seen w g ∷ []) s (offered_media x g s)
      go (inl e) = accepted (media_seen w g) key f (media-accepted w O.based f.present f.used s g (media-passes x g s (stands w f.present f.used s O.faultless f.order) faultless h e))
      go (inr e) = subst (λ y. (number_of y.answer ≢ 18) → Goes w D (media_seen w g ∷ []) s y) (sym (media-kept x g s (λ z. true≢false (sym (media-passed x g s z).new ∙ e))))
          (λ b. passed (media_seen w g) key (refresh f) refl refl (miss-mark w s i h ∙ e) (inl b)) (media-believed x g s)

  -- a parity datagram without a fault, of a group of the window that is in D: there is room for it
  pub fine-parity : {v : Window} {s : Store} (stream : ℕ) → stream ≤ 1 → (g : List ℕ) → None (parity_tests stream w.l w.d w.p g) → inside w stream (snbase g) ≡ true
      → Memᴰ (stream, snbase g) D → Fine w D v s → Goes w D (parity_seen w stream g ∷ []) s (offered_parity stream v g s)
  fine-parity {v} {s} stream hs g faultless h m f = subst (λ z. Goes w D (parity_seen w stream g ∷ []) s (offered_parity stream z g s)) (sym f.window) (go (decide (any in_hand (up_to (rows w)))) (decide (contradicts w stream g s)))
    where
      x : Window
      x = recount w f.present f.used

      in_hand : ℕ → Bool
      in_hand = holds w s stream (snbase g)

      key : (k : ℕ × ℕ) (c : Recovery) → parity_seen w stream g ≡ check k c → Memᴰ k D
      key k c e = let z : k ≡ (stream, snbase g) = cc in Memᴰ.cast z m

      -- not in hand: there is room
      free : any in_hand (up_to (rows w)) ≡ false → f.used < parity_room w
      free e =
          let o : Out (stream, snbase g) D = take_out m in
          let z = pigeon (check_at s) (is_in_use w s) (rows w) o.rest
          (λ r l i. o.others (check_at s r) (λ q. true≢false (sym (is_holder w s (stream, snbase g) r i q) ∙ any_false in_hand (rows w) e r l)) (f.keyed r l i))
          f.order.good.apart in
          omega (arith, f.order.good.in_use, o.shorter)

      -- in hand: the record that holds it
      holder : any in_hand (up_to (rows w)) ≡ true → (c : Recovery) × Held w s (stream, snbase g) c
      holder e =
          let r = any_some in_hand (up_to (rows w)) e in
          let v = record_at s r.0 in
          let b = both (is_in_use w s r.0) (eqb v.stream stream && eqb v.snbase (snbase g)) r.2 in
          let c = both (eqb v.stream stream) (eqb v.snbase (snbase g)) b.1 in
          let d = eqb-true v.stream stream c.0 in
          let e = eqb-true v.snbase (snbase g) c.1 in
          (recovery_at w s r.0, record { at = r.0; below = up_to-lt (rows w) r.0 r.1; used = b.0; names = λ j. (d j, e j); carries = refl })

      -- it is answered 18 only if it lies
      told : (number_of (offered_parity stream x g s).answer ≢ 18) ⊎ Lying w s (parity_seen w stream g ∷ [])
      told = ⊎_elim (λ e. inr (lying_now w s stream g e)) (λ e. inl (λ n. true≢false (sym (parity-lies stream x g s n).1 ∙ e))) (decide (contradicts w stream g s))

      -- a refused one that the store has, or has no more use for, is passed over
      kept : (first (parity_offer_tests x stream g s) ≡ 0 → ⊥) → Here (code w) (parity_seen w stream g) (view w s) → Goes w D (parity_seen w stream g ∷ []) s (offered_parity stream x g s)
      kept n here = subst (λ y. (number_of y.answer ≢ 18) ⊎ Lying w s (parity_seen w stream g ∷ []) → Goes w D (parity_seen w stream g ∷ []) s y) (sym (parity-kept stream x g s n))
          (passed (parity_seen w stream g) key (refresh f) refl refl here) told

      -- one that contradicts its group has none of it missing
      full : contradicts w stream g s ≡ true → Full (code w) (view w s) (stream, snbase g)
      full e = λ i m. miss-mark w s i (group-lt w stream (snbase g) h i m) ∙ any_none (is_missing s.marks) (group w stream (snbase g)) (contradicted w s stream g e).0 i m

      go : (any in_hand (up_to (rows w)) ≡ true) ⊎ (any in_hand (up_to (rows w)) ≡ false) → (contradicts w stream g s ≡ true) ⊎ (contradicts w stream g s ≡ false)
          → Goes w D (parity_seen w stream g ∷ []) s (offered_parity stream x g s)
      go (inl e) c = kept (λ z. true≢false (sym e ∙ (parity-passed x stream g s z).new)) (inl (holder e))
      go (inr e) (inl c) = let b = contradicted w s stream g c in kept (λ z. true≢false (sym ((parity-passed x stream g s z).agrees b.0) ∙ b.1)) (inr (full c))
      go (inr e) (inr c) = accepted (parity_seen w stream g) key f (parity-accepted w O.based f.present f.used s g stream hs
          (parity-passes x g s (stands w f.present f.used s O.faultless f.order) stream faultless h e c (free e)))

-- a parity datagram of a group that does not lie in the window is refused
pub refused-parity : {w : Window} {D : List (ℕ × ℕ)} {v : Window} {s : Store} (stream : ℕ) (g : List ℕ) → inside w stream (snbase g) ≡ false → Fine w D v s → Goes w D [] s (offered_parity stream v g s)
refused-parity {w} {D} {v} {s} stream g e f = subst (λ z. Goes w D [] s (offered_parity stream z g s)) (sym f.window)
    (subst (λ y. (number_of y.answer ≢ 18) → Goes w D [] s y) (sym (parity-kept stream x g s (λ z. true≢false (sym (parity-passed x stream g s z).in_window ∙ e))))
    (λ b. record { fine = refresh f; runs = done; clear = inl refl; believed = inl b }) (λ n. true≢false (sym (parity-lies stream x g s n).0 ∙ e)))
  where
    x : Window
    x = recount w f.present f.used
