-- A parity packet that contradicts its group (02, request 6): what an answer 18 says, and a run of the theory that meets such a check.
use Rattle.std.specs.Prelude.{◌≡◌, refl, ◌≢◌, Bool, true, false, not, cond, ◌&&◌, ℕ, T, eqb, leb, ltb, length}
use Rattle.std.proofs.Common.{sym, ap₂, ◌∙◌, ⊎_elim, arith, eq-eqb, eqb-true}
use mathlib.Core.List.Memᴰ
use mathlib.Core.List.{List, [], ◌∷◌, ◌++◌, Memᴰ}
use Rattle.std.proofs.lemmas.Bool.{not-true, not-false}
use Rattle.answer.specs.First.{first, None, first-end}
use Rattle.answer.specs.Number.{number_of}
use Rattle.xor.specs.Same.{same, same_self, same-eq}
use Rattle.sequence.specs.Lists.{up_to, any}
use Rattle.sequence.proofs.Lists.{and_split as both}
use Rattle.rtp.specs.Fec.{snbase}
use Rattle.rtp.specs.Faults.{parity_tests}
use Rattle.window.specs.declared.Window.{Window}
use Rattle.window.specs.Limits.{least_missing, rows, parity_room}
use Rattle.window.specs.Store.{Store}
use Rattle.window.specs.Group.{group, inside, is_missing, missing}
use Rattle.calls.specs.Content.{Recovery, same_content, same_recovery, recovery_over}
use Rattle.calls.specs.Accept.{recovery_of, accept_media, accept_parity}
use Rattle.calls.specs.Call.{standing_tests, media_offer_tests, holds, holds_same, contradicts, parity_place_tests, parity_offer_tests, refused, settled, begun, offered_media, offered_parity}
use Rattle.peel.specs.Peel.{Offer, Runs, done}
use Rattle.peel.proofs.Peel.{runs_then}
use Rattle.guarantee.specs.Packets.{Packet}
use Rattle.guarantee.specs.View.{code, view}
use Rattle.guarantee.specs.Offers.{parity_seen}
use Rattle.guarantee.specs.Lying.{Others, Lying}

-- ---- the same recovery
-- what a parity packet carries is the same as itself
pub recovery_self : (v : Recovery) → same_recovery v v ≡ true
recovery_self v =
    ap₂ ◌&&◌ (ap₂ ◌&&◌ (ap₂ ◌&&◌ (eq-eqb v.content.timestamp v.content.timestamp refl) (eq-eqb v.content.length v.content.length refl)) (same_self v.content.payload))
    (eq-eqb v.size v.size refl)

-- and what is the same is equal
pub recovery_same : (u v : Recovery) → same_recovery u v ≡ true → u ≡ v
recovery_same u v e =
    let a = both (same_content u.content v.content) (eqb u.size v.size) e in
    let b = both (eqb u.content.timestamp v.content.timestamp && eqb u.content.length v.content.length) (same u.content.payload v.content.payload) a.0 in
    let c = both (eqb u.content.timestamp v.content.timestamp) (eqb u.content.length v.content.length) b.0 in
    let stamp = eqb-true u.content.timestamp v.content.timestamp c.0 in
    let long = eqb-true u.content.length v.content.length c.1 in
    let bytes = same-eq u.content.payload v.content.payload b.1 in
    let size = eqb-true u.size v.size a.1 in
    λ k. record { content = record { timestamp = stamp k; length = long k; payload = bytes k }; size = size k }

-- a number is not another
others-not : (j k : ℕ) → T (not (eqb j k)) → j ≡ k → ⊥
others-not j k n e = go (eqb j k) (eq-eqb j k e) n
  where
    go : (b : Bool) → b ≡ true → T (not b) → ⊥
    go true q h = h
    go false q h = absurd (let z : ◌≡◌ {A = ℕ} 0 1 = cc in omega arith)

-- where the first that applies has number k, it lies behind the tests of other numbers, and none of those applies
first-behind : (k : ℕ) (ts us : List (ℕ × Bool)) → Others k ts → first (ts ++ us) ≡ k → None ts × (first us ≡ k)
unfolding first
first-behind k [] us n e = (tt, e)
first-behind k ((j, false) ∷ ts) us n e = let z = first-behind k ts us n.1 e in ((refl, z.0), z.1)
first-behind k ((j, true) ∷ ts) us n e = absurd (others-not j k n.0 e)

-- where it is k, and only the first test has number k, that applies
first_head : (k : ℕ) (t : Bool) (us : List (ℕ × Bool)) → k ≢ 0 → Others k us → first ((k, t) ∷ us) ≡ k → t ≡ true
unfolding first
first_head k true us z n e = refl
first_head k false [] z n e = absurd (z (sym e))
first_head k false ((j, false) ∷ us) z n e = first_head k false us z n.1 e
first_head k false ((j, true) ∷ us) z n e = absurd (others-not j k n.0 e)

-- the number that a media offer is answered with is that of its first test
media-first : (w : Window) (g : List ℕ) (s : Store) → number_of (offered_media w g s).answer ≡ first (media_offer_tests w g s)
unfolding offered_media
media-first w g s = go (eqb (first (media_offer_tests w g s)) 0) refl
  where
    go : (b : Bool) → eqb (first (media_offer_tests w g s)) 0 ≡ b
        → number_of (cond b (settled (accept_media g (begun w s))) (refused (first (media_offer_tests w g s)) w s)).answer ≡ first (media_offer_tests w g s)
    go true e = sym (eqb-true (first (media_offer_tests w g s)) 0 e)
    go false e = refl

-- the same of a parity offer
pub parity-first : (stream : ℕ) (w : Window) (g : List ℕ) (s : Store) → number_of (offered_parity stream w g s).answer ≡ first (parity_offer_tests w stream g s)
unfolding offered_parity
parity-first stream w g s = go (eqb (first (parity_offer_tests w stream g s)) 0) refl
  where
    go : (b : Bool) → eqb (first (parity_offer_tests w stream g s)) 0 ≡ b
        → number_of (cond b (settled (accept_parity stream g (begun w s))) (refused (first (parity_offer_tests w stream g s)) w s)).answer ≡ first (parity_offer_tests w stream g s)
    go true e = sym (eqb-true (first (parity_offer_tests w stream g s)) 0 e)
    go false e = refl

-- no media offer is answered 18
pub media-believed : (w : Window) (g : List ℕ) (s : Store) → number_of (offered_media w g s).answer ≢ 18
media-believed w g s e =
    let z = first-behind 18 (media_offer_tests w g s) [] (tt, (tt, (tt, (tt, (tt, (tt, (tt, (tt, (tt, (tt, (tt, (tt, tt)))))))))))) (sym (media-first w g s) ∙ e) in
    let n = first-end in omega arith

-- a parity offer that is answered 18 met no other refusal before
pub parity-behind : (stream : ℕ) (w : Window) (g : List ℕ) (s : Store) → number_of (offered_parity stream w g s).answer ≡ 18
    → None (standing_tests w s 0 0 ++ parity_tests stream w.l w.d w.p g) × (first (parity_place_tests w stream g s) ≡ 18)
parity-behind stream w g s e = first-behind 18 (standing_tests w s 0 0 ++ parity_tests stream w.l w.d w.p g) (parity_place_tests w stream g s)
    (tt, (tt, (tt, (tt, (tt, (tt, (tt, (tt, (tt, (tt, (tt, (tt, tt)))))))))))) (sym (parity-first stream w g s) ∙ e)

-- it is of a group of the window, and contradicts it
pub parity-lies : (stream : ℕ) (w : Window) (g : List ℕ) (s : Store) → number_of (offered_parity stream w g s).answer ≡ 18 → (inside w stream (snbase g) ≡ true) × (contradicts w stream g s ≡ true)
parity-lies stream w g s e =
    let held : List (ℕ × Bool) = (13, not (inside w stream (snbase g))) ∷ (14, any (holds_same w s stream g) (up_to (rows w))) ∷ (15, any (holds w s stream (snbase g)) (up_to (rows w))) ∷ [] in
    let last : List (ℕ × Bool) = (16, leb least_missing (length (missing s.marks (group w stream (snbase g)))) && not (ltb w.in_use (parity_room w))) ∷ [] in
    let z = first-behind 18 held ((18, contradicts w stream g s) ∷ last) (tt, (tt, (tt, tt))) (parity-behind stream w g s e).1 in
    (not-false (inside w stream (snbase g)) z.0.0, first_head 18 (contradicts w stream g s) last (λ n. omega arith) (tt, tt) z.1)

-- a parity datagram that contradicts its group has it whole, and carries something else
pub contradicted : (w : Window) (s : Store) (stream : ℕ) (g : List ℕ) → contradicts w stream g s ≡ true
    → (any (is_missing s.marks) (group w stream (snbase g)) ≡ false) × (same_recovery (recovery_over w s (group w stream (snbase g))) (recovery_of w.p g) ≡ false)
contradicted w s stream g e =
    let some = any (is_missing s.marks) (group w stream (snbase g)) in
    let agrees = same_recovery (recovery_over w s (group w stream (snbase g))) (recovery_of w.p g) in
    let z = both (not some) (not agrees) e in
    (not-true some z.0, not-true agrees z.1)

-- so it is one
pub lying_now : (w : Window) (s : Store) (stream : ℕ) (g : List ℕ) → contradicts w stream g s ≡ true → Lying w s (parity_seen w stream g ∷ [])
lying_now w s stream g e =
    let z = contradicted w s stream g e in
    record {
      taken = [];
      among = λ p m. absurd (Memᴰ.not-nil m);
      then = s;
      runs = done;
      key = (stream, snbase g);
      carries = recovery_of w.p g;
      offered = Memᴰ.head refl;
      whole = z.0;
      differs = z.1;
    }

-- later on, it is met all the same
pub lying-then : {w : Window} {os ps : List (Offer (ℕ × ℕ) Recovery Packet)} {s y : Store} → Runs (code w) (view w s) os (view w y) → Lying w y ps → Lying w s (os ++ ps)
lying-then {w} {os} {ps} r b = record {
  taken = os ++ b.taken;
  among = λ p m. ⊎_elim (Memᴰ.append_left ps) (λ n. Memᴰ.append_right os (b.among p n)) (Memᴰ.append_cases os m);
  then = b.then;
  runs = runs_then (code w) r b.runs;
  key = b.key;
  carries = b.carries;
  offered = Memᴰ.append_right os b.offered;
  whole = b.whole;
  differs = b.differs;
}

-- and of more offers
pub lying-more : {w : Window} {os : List (Offer (ℕ × ℕ) Recovery Packet)} (ps : List (Offer (ℕ × ℕ) Recovery Packet)) {s : Store} → Lying w s os → Lying w s (os ++ ps)
lying-more ps b = record {
  taken = b.taken;
  among = λ p m. Memᴰ.append_left ps (b.among p m);
  then = b.then;
  runs = b.runs;
  key = b.key;
  carries = b.carries;
  offered = Memᴰ.append_left ps b.offered;
  whole = b.whole;
  differs = b.differs;
}
