-- The offers (calls' Call.antt): what an accepted one leaves, and that a refused one changes nothing.
use Rattle.std.specs.Prelude.{◌≡◌, refl, Bool, true, false, cond, List, [], ◌∷◌, ◌++◌, ℕ, ◌^◌, ◌<◌, ◌≤◌, length, drop, eqb}
use Rattle.std.proofs.Common.{sym, ap, ◌∙◌, arith, eqb-true, eq-eqb, ne_eqb}
use Rattle.std.proofs.Math.Bool.{true≢false}
use Rattle.answer.specs.declared.Answer.TheVariants.{Done, Refused}
use Rattle.answer.specs.First.{first, None}
use Rattle.rtp.specs.Rtp.{rtp_header_size, sequence_number}
use Rattle.rtp.specs.Fec.{parity_header_size, snbase}
use Rattle.sequence.proofs.Lists.{any_false}
use Rattle.window.specs.declared.Window.{Window}
use Rattle.window.specs.Limits.{width, rows}
use Rattle.window.specs.Store.{Store, record_at}
use Rattle.window.specs.Group.{position}
use Rattle.window.specs.Order.{is_in_use}
use Rattle.calls.specs.State.{recount}
use Rattle.calls.specs.Accept.{content_of, recovery_of}
use Rattle.calls.specs.Call.{Outcome, media_offer_tests, holds, parity_offer_tests, refused, offered_media, offered_parity}
use Rattle.calls.proofs.Passed.{media-passed, parity-passed}
use Rattle.guarantee.proofs.Lengths.{padded_clean, units_le}
use Rattle.guarantee.specs.View.{check_at}
use Rattle.guarantee.specs.Order.{standing}
use Rattle.guarantee.proofs.Order.{limits_of}
use Rattle.guarantee.specs.Accepted.{Settled}
use Rattle.guarantee.proofs.Accepted.{take-media, take_parity_lem, settles}
use Rattle.guarantee.specs.Offers.{media_seen, parity_seen}

-- ---- tests
-- no test of two lists applies, so none of each
pub none_split : (ts us : List (ℕ × Bool)) → None (ts ++ us) → None ts × None us
none_split [] us n = (tt, n)
none_split ((k, t) ∷ ts) us n = let z = none_split ts us n.1 in ((n.0, z.0), z.1)

-- a call that answers done met no refusal
pub done_first : (ts : List (ℕ × Bool)) (x y : Outcome) (k c q : ℕ) → y.answer ≡ Refused k → (cond (eqb (first ts) 0) x y).answer ≡ Done c q → first ts ≡ 0
done_first ts x y k c q r e = go (eqb (first ts) 0) refl e
  where
    go : (b : Bool) → eqb (first ts) 0 ≡ b → (cond b x y).answer ≡ Done c q → first ts ≡ 0
    go true z h = eqb-true (first ts) 0 z
    go false z h = absurd (let z : ◌≡◌ {A = ℕ} 0 1 = cc in omega arith)

-- a record in use of that stream and SNBase holds the group
pub is_holder : (w : Window) (s : Store) (k : ℕ × ℕ) (q : ℕ) → is_in_use w s q ≡ true → check_at s q ≡ k → holds w s k.0 k.1 q ≡ true
is_holder w s k q i e = rw (i, eq-eqb (record_at s q).stream k.0 (ap (λ (j : ℕ × ℕ). j.0) e), eq-eqb (record_at s q).snbase k.1 (ap (λ (j : ℕ × ℕ). j.1) e))

-- ---- refused offers
-- a refused media offer leaves window and store as they were
pub media-kept : (w : Window) (g : List ℕ) (s : Store) → (first (media_offer_tests w g s) ≡ 0 → ⊥) → offered_media w g s ≡ refused (first (media_offer_tests w g s)) w s
unfolding offered_media
media-kept w g s h = rw (ne_eqb (first (media_offer_tests w g s)) 0 h)

-- the same of parity
pub parity-kept : (stream : ℕ) (w : Window) (g : List ℕ) (s : Store) → (first (parity_offer_tests w stream g s) ≡ 0 → ⊥) → offered_parity stream w g s ≡ refused (first (parity_offer_tests w stream g s)) w s
unfolding offered_parity
parity-kept stream w g s h = rw (ne_eqb (first (parity_offer_tests w stream g s)) 0 h)

-- ---- accepted offers
module _ (w : Window) (based : w.base < 2 ^ width) (a u : ℕ) (s : Store) (g : List ℕ) where
  -- a media offer that no refusal applies to is taken in and settled
  pub media-accepted : first (media_offer_tests (recount w a u) g s) ≡ 0 → Settled w a s (media_seen w g) 1 (offered_media (recount w a u) g s)
  unfolding offered_media
  media-accepted e =
      let p = media-passed (recount w a u) g s e in
      let o = standing w a u s p.standing in
      rw e (settles (take-media (limits_of w a u based p.standing.set_up) o.good o.waits (position w (sequence_number g)) (content_of w.p g) p.in_window p.new
      (padded_clean w.p (drop rtp_header_size g) (units_le w.p w.p (length (drop rtp_header_size g)) p.size)) p.size))

  -- a parity offer that no refusal applies to is taken in and settled
  pub parity-accepted : (stream : ℕ) → stream ≤ 1 → first (parity_offer_tests (recount w a u) stream g s) ≡ 0 → Settled w a s (parity_seen w stream g) 0 (offered_parity stream (recount w a u) g s)
  unfolding offered_parity
  parity-accepted stream hs e =
      let p = parity-passed (recount w a u) stream g s e in
      let o = standing w a u s p.standing in
      rw e (settles (take_parity_lem (limits_of w a u based p.standing.set_up) o.good o.waits stream (snbase g) (recovery_of w.p g)
      (record { known = hs; rows = p.permitted; within = p.in_window })
      (padded_clean w.p (drop parity_header_size g) (units_le w.p w.p (length (drop parity_header_size g)) p.size)) p.size
      (λ q h i e. true≢false (sym (is_holder w s (stream, snbase g) q i e) ∙ any_false (holds w s stream (snbase g)) (rows w) p.new q h))
      p.has_room))
