-- Accepting a packet (calls' Accept.antt) and settling, as the theory's moves: what every accepted offer leaves behind.
use Rattle.std.specs.Prelude.{◌≡◌, refl, ◌≢◌, ◌⊎◌, Bool, true, false, not, cond, List, [], ◌∷◌, ℕ, ◌+◌, ◌<◌, ◌≤◌, length}
use Rattle.std.proofs.Common.{sym, ap, ap₂, ◌∙◌, subst, true≢false, arith}
use Rattle.std.proofs.Math.Logic.{inl, inr, ⊎_elim}
use Rattle.std.proofs.Math.Decide.{ℕ_discrete}
use Rattle.std.proofs.lemmas.Bool.{not-true}
use Rattle.answer.specs.declared.Answer.TheVariants.{Done}
use Rattle.sequence.specs.Lists.{up_to}
use Rattle.sequence.proofs.Lists.{length-up_to}
use Rattle.rtp.specs.Length.{good_length}
use Rattle.window.specs.declared.Record.{Record}
use Rattle.window.specs.declared.Window.{Window}
use Rattle.window.specs.Store.{Store}
use Rattle.window.specs.Group.{group, is_missing, missing}
use Rattle.window.specs.Limits.{least_missing, rows}
use Rattle.window.specs.Order.{used_by, is_in_use}
use Rattle.calls.specs.Content.{Content, Recovery, recovery_at}
use Rattle.calls.specs.State.{State, recount, put, put_record, store_media, rebuild, fits_over, count_spoilt, held_record, hold}
use Rattle.calls.specs.Settle.{round, settle}
use Rattle.calls.specs.Accept.{first_free, take_parity}
use Rattle.calls.specs.Call.{settled}
use Rattle.peel.specs.Group as Peel
use Rattle.peel.specs.Peel.{Offer, media, check, View, gone, miss, Take, Spoilt, Step, Runs, done, took, made, Spoiling}
use Rattle.peel.proofs.Peel.{pass, runs_then, steps-run, spoiling_then}
use Rattle.peel.specs.Rest.{Still, rounds}
use Rattle.peel.proofs.Rest.{rounds-keep, rounds-steps, rounds-clear, rounds-still}
use Rattle.guarantee.proofs.Ranges.{count-not, count_raise, first-kept, up_to-lt}
use Rattle.guarantee.specs.Packets.{Packet, packet_of}
use Rattle.guarantee.specs.Lengths.{Clean}
use Rattle.guarantee.proofs.Lengths.{clean_size}
use Rattle.guarantee.specs.View.{Limits, code, check_at, Shaped, slot_at, Held, view, Good, Missing}
use Rattle.guarantee.proofs.View.{member-lt, slot-missing, miss-count, held-count}
use Rattle.guarantee.proofs.Changes.{fill_keeps, fill_new, put-filled, put-others, put-held, put-was-held, put-good, put-missing, record_slot, record_same, recovery_same, record_other, record_held, record_was-held, of_each, record_good_lem}
use Rattle.guarantee.specs.Moves.{rebuilt_in, Solved}
use Rattle.guarantee.proofs.Moves.{solved, spoilt-by, rebuild-good, rebuild-missing, step_rebuild}
use Rattle.guarantee.specs.Rounds.{at, Working}
use Rattle.guarantee.proofs.Rounds.{engine}
use Rattle.guarantee.specs.Order.{Ordered}
use Rattle.guarantee.specs.Accepted.{Taken, Settled}

-- as many as parity in hand waits for is at least one
less : {w : Window} {s : Store} → Missing least_missing w s → Missing 1 w s
less k = record { least = λ r h e. let z = k.least r h e in omega arith }

module _ {w : Window} (L : Limits w) {a u : ℕ} {s : Store} (G : Good w a u s) (K : Missing least_missing w s) where
  -- ---- a media packet

  -- a media packet whose position is missing becomes present
  pub take-media : (i : ℕ) (c : Content) → i < w.n → is_missing s.marks i ≡ true → Clean w.p c.length c.payload → good_length w.p c.length ≡ true
      → Taken w a s (media i (packet_of c)) 1 (store_media i c (at w a u s 0 0))
  take-media i c h e hp good = record {
    working = record { present = a + 1; used = u; store = t; count = 0; spoilt = 0; is = refl; good = put-good G i c h hp e good; least = put-missing G i c h hp L 1 K; rise = omega arith };
    runs = took move done;
    clear = inl refl;
  }
    where
      t : Store
      t = put w s i c

      move : Take (code w) (media i (packet_of c)) (view w s) (view w t)
      move = record {
        keeps = fill_keeps (view w s) (view w t) i _ (slot-missing w s i e) (put-filled G i c h hp) (put-others G i c h hp);
        new = λ j y q. ⊎_elim inl (λ z. inr (ap₂ media z.0 z.1))
            (fill_new (view w s) (view w t) i _ (slot-missing w s i e) (put-filled G i c h hp) (put-others G i c h hp) j y q);
        sub = λ k v q. inl (put-was-held G i c h hp k v q);
        release = λ k v q. inl (put-held G i c h hp k v q);
        here = ap gone (put-filled G i c h hp);
      }

  -- ---- a parity packet that is not in hand

  module _ (stream snbase : ℕ) (c : Recovery) (S : Shaped w (stream, snbase)) (hp : Clean w.p c.size c.content.payload) (big : good_length w.p c.size ≡ true)
      (new : (q : ℕ) → q < rows w → is_in_use w s q ≡ true → check_at s q ≡ (stream, snbase) → ⊥) where
    -- none missing: it is of no use
    take_none : missing s.marks (group w stream snbase) ≡ [] → Taken w a s (check (stream, snbase) c) 0 (at w a u s 0 0)
    take_none e = record {
      working = record { present = a; used = u; store = s; count = 0; spoilt = 0; is = refl; good = G; least = less K; rise = omega arith };
      runs = took (pass (code w) (inr (Peel.none-count (miss (view w s)) (group w stream snbase) (miss-count w s (group w stream snbase) (member-lt S) ∙ ap length e)))) done;
      clear = inl refl;
    }

    -- the checks in hand, and this one
    abbrev H : ℕ × ℕ → Recovery → Type 0
    H k x = Held w s k x ⊎ ((k ≡ (stream, snbase)) × (x ≡ c))

    -- the receiver with it in hand
    abbrev with_it : View (ℕ × ℕ) Recovery Packet
    with_it = record { slot = slot_at w s; held = H }

    -- it takes it in hand
    takes-it : Take (code w) (check (stream, snbase) c) (view w s) with_it
    takes-it = record {
      keeps = λ j x e. e;
      new = λ j x e. inl e;
      sub = λ k x h. ⊎_elim inl (λ z. inr (ap₂ check (sym z.0) (sym z.1))) h;
      release = λ k x h. inl (inl h);
      here = inl (c, inr (refl, refl));
    }

    -- one missing
    module _ (i : ℕ) (e : missing s.marks (group w stream snbase) ≡ i ∷ []) where
      -- it and the others of the group
      solves : Solved w s (group w stream snbase) c.content i
      solves = solved w s (group w stream snbase) (member-lt S) c.content (clean_size w.p c.size c.content.payload hp) i e

      -- what it gives fits: it rebuilds that
      take-one : fits_over (at w a u s 0 0) (group w stream snbase) c ≡ true → Taken w a s (check (stream, snbase) c) 0 (rebuild (group w stream snbase) c.content i (at w a u s 0 0))
      unfolding rebuild
      take-one ok = record {
        working = record {
          present = a + 1;
          used = u;
          store = rebuilt_in w s (group w stream snbase) c.content i;
          count = 1;
          spoilt = 0;
          is = refl;
          good = rebuild-good (stream, snbase) c i solves G big ok;
          least = rebuild-missing (stream, snbase) c i solves G big ok L 1 K;
          rise = omega arith;
        };
        runs = took takes-it (made (step_rebuild (stream, snbase) c i solves G big ok H (inr (refl, refl)) (λ l x h. inl h) (λ l x h. ⊎_elim inl (λ z. inr z.0) h)) done);
        clear = inl refl;
      }

      -- it does not fit: it is spoilt, and let go
      take-spoilt : fits_over (at w a u s 0 0) (group w stream snbase) c ≡ false → Taken w a s (check (stream, snbase) c) 0 (count_spoilt (at w a u s 0 0))
      take-spoilt bad = record {
        working = record { present = a; used = u; store = s; count = 0; spoilt = 1; is = refl; good = G; least = less K; rise = omega arith };
        runs = took takes-it (made let_go done);
        clear = inr (record { taken = check (stream, snbase) c ∷ []; among = λ p m. m; then = with_it; runs = took takes-it done; key = (stream, snbase); carries = c; spoilt = spoilt });
      }
        where
          spoilt : Spoilt (code w) with_it (stream, snbase) c
          spoilt = spoilt-by (stream, snbase) c i solves H (inr (refl, refl)) bad

          let_go : Step (code w) with_it (view w s)
          let_go = record {
            keeps = λ j x e. e;
            new = λ j x e. inl e;
            sub = λ k x h. inl h;
            release = λ k x h. ⊎_elim inl (λ z. inr (inr (rw (z.0, z.1) spoilt))) h;
          }

    -- more missing, and a free record: it goes there
    module _ (r : ℕ) (hr : r < rows w) (free : is_in_use w s r ≡ false) (waits : least_missing ≤ length (missing s.marks (group w stream snbase))) where
      -- the record written
      abbrev v : Record
      v = held_record stream snbase c

      -- the store with it
      abbrev with_record : Store
      with_record = put_record w s r v c.content.payload

      -- it is in use
      used-same : is_in_use w with_record r ≡ true
      used-same = rw (record_same G r v c.content.payload hr hp)

      -- a check in hand is in another record
      not_free : (k : ℕ × ℕ) (x : Recovery) (h : Held w s k x) → h.at ≢ r
      not_free k x h z = true≢false (sym h.used ∙ ap (is_in_use w s) z ∙ free)

      -- so it is taken in
      take_more : Taken w a s (check (stream, snbase) c) 0 (hold r stream snbase c (at w a u s 0 0))
      take_more = record {
        working = record {
          present = a;
          used = u + 1;
          store = with_record;
          count = 0;
          spoilt = 0;
          is = refl;
          good = record_good_lem G r v c.content.payload hr hp (u + 1) (omega arith) (λ e. S) (λ e. big) (λ e q h f n. new q h f)
              (let z = count_raise (is_in_use w s) (is_in_use w with_record) (rows w) r hr free used-same (λ q n. rw (record_other G r v c.content.payload hr hp q n)) in omega (arith, G.in_use));
          least = record {
            least = of_each G r v c.content.payload hr hp (λ x. used_by w x ≡ true → 1 ≤ length (missing s.marks (group w x.stream x.snbase))) (λ e. omega arith) (λ q h n e. let z = K.least q h e in omega arith);
          };
          rise = omega arith;
        };
        runs = took (record {
          keeps = λ j x e. record_slot G r v c.content.payload hr hp j ∙ e;
          new = λ j x e. inl (sym (record_slot G r v c.content.payload hr hp j) ∙ e);
          sub = λ k x h. from k x h (ℕ_discrete h.at r);
          release = λ k x h. inl (record_held G r v c.content.payload hr hp k x h (not_free k x h));
          here = inl (c, record { at = r; below = hr; used = used-same; names = rw (record_same G r v c.content.payload hr hp); carries = recovery_same G r v c.content.payload hr hp });
        }) done;
        clear = inl refl;
      }
        where
          from : (k : ℕ × ℕ) (x : Recovery) (h : Held w with_record k x) → Dec (h.at ≡ r) → Held w s k x ⊎ (◌≡◌ {A = Offer (ℕ × ℕ) Recovery Packet} (check (stream, snbase) c) (check k x))
          from k x h (no n) = inl (record_was-held G r v c.content.payload hr hp k x h n)
          from k x h (yes z) =
              let b : (stream, snbase) ≡ k = rw (z, record_same G r v c.content.payload hr hp) at h.names in
              let y : c ≡ x = sym (recovery_same G r v c.content.payload hr hp) ∙ ap (recovery_at w with_record) (sym z) ∙ h.carries in
              inr (ap₂ check b y)

    -- the free record of lowest index, where there is one
    free_record : u < rows w → (first_free (recount w a u) s < rows w) × (is_in_use w s (first_free (recount w a u) s) ≡ false)
    free_record h =
        let z = count-not (is_in_use w s) (up_to (rows w)) in
        let y = length-up_to (rows w) in
        let f = first-kept (λ r. not (is_in_use w s r)) (rows w) (up_to (rows w)) (omega (arith, G.in_use)) in
        (up_to-lt (rows w) (first_free (recount w a u) s) f.0, not-true (is_in_use w s (first_free (recount w a u) s)) f.1)

    -- whatever is missing of its group, it is taken in, if there is room where two or more are
    pub take_parity_lem : (least_missing ≤ length (missing s.marks (group w stream snbase)) → u < rows w)
        → Taken w a s (check (stream, snbase) c) 0 (take_parity (missing s.marks (group w stream snbase)) stream snbase c (at w a u s 0 0))
    take_parity_lem room = go (missing s.marks (group w stream snbase)) refl
      where
        go : (m : List ℕ) → missing s.marks (group w stream snbase) ≡ m → Taken w a s (check (stream, snbase) c) 0 (take_parity m stream snbase c (at w a u s 0 0))
        go [] e = take_none e
        go (i ∷ []) e = by (fits_over (at w a u s 0 0) (group w stream snbase) c) refl
          where
            by : (d : Bool) → fits_over (at w a u s 0 0) (group w stream snbase) c ≡ d
                → Taken w a s (check (stream, snbase) c) 0 (cond d (rebuild (group w stream snbase) c.content i (at w a u s 0 0)) (count_spoilt (at w a u s 0 0)))
            by true ok = take-one i e ok
            by false bad = take-spoilt i e bad
        go (i ∷ j ∷ m) e =
            let z : least_missing ≤ length (missing s.marks (group w stream snbase)) = omega (arith, ap length e) in
            let f = free_record (room z) in
            take_more (first_free (recount w a u) s) f.0 f.1 z

-- ---- settling
-- at rest, of no check exactly one member is missing
pub rested : {w : Window} {a u : ℕ} {s : Store} → Good w a u s → Missing 1 w s → Still (code w) (view w s) → Missing least_missing w s
rested {w} {s = s} G k still = record {
  least = λ r h e. let z = k.least r h e in
      let c : Held w s (check_at s r) (recovery_at w s r) = record { at = r; below = h; used = e; names = refl; carries = refl } in
      omega (arith, still (check_at s r) _ c, held-count G c);
}

-- and where more are missing of each, it is at rest
pub rests : {w : Window} {a u : ℕ} {s : Store} → Good w a u s → Missing least_missing w s → Still (code w) (view w s)
rests G k key v h one = omega (arith, held-count G h, k.least h.at h.below h.used)

-- what settling makes of a packet taken in: the rounds bring the receiver to rest
pub settles : {w : Window} {a : ℕ} {s : Store} {p : Offer (ℕ × ℕ) Recovery Packet} {more : ℕ} {y : State} → Taken w a s p more y → Settled w a s p more (settled y)
unfolding settle
settles {w} {a} {s} {p} {more} {y} t =
    let n = y.window.in_use in
    rests-at (rounds round n y) (rounds-keep (code w) (engine w (a + more)) n y t.working)
    (runs_then (code w) t.runs (steps-run (code w) (rounds-steps (code w) (engine w (a + more)) n y t.working)))
    (rounds-still (code w) (engine w (a + more)) n y t.working (omega arith))
    (⊎_elim (λ e. ⊎_elim (λ z. inl (e ∙ z)) inr t.clear) (λ b. inr (spoiling_then (code w) t.runs b)) (rounds-clear (code w) (engine w (a + more)) n y t.working))
  where
    rests-at : (z : State) → Working w (a + more) z → Runs (code w) (view w s) (p ∷ []) (view w z.store) → Still (code w) (view w z.store) → (z.spoilt ≡ 0) ⊎ Spoiling (code w) (view w s) (p ∷ [])
        → Settled w a s p more (record { answer = Done z.rebuilt z.spoilt; window = z.window; store = z.store })
    rests-at z f r still clear = record {
      present = f.present;
      used = f.used;
      count = f.count;
      spoilt = z.spoilt;
      answer = ap (λ y. Done y.rebuilt z.spoilt) f.is;
      window = ap (λ y. y.window) f.is;
      order = subst (Ordered w f.present f.used) (ap (λ y. y.store) (sym f.is))
          (record { good = f.good; waits = rested f.good f.least (subst (λ y. Still (code w) (view w y.store)) f.is still) });
      runs = r;
      rise = f.rise;
      clear = clear;
    }
