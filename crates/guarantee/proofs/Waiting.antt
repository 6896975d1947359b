-- What every accepted offer leaves, unaltered or not (01, "Taking a packet in"; 00, demand 2): a store in order, in which every parity
-- packet in hand covers at least two missing packets (least_missing); and a count that is the rise in packets present, less the media packet
-- itself, whatever was found spoilt.
use Rattle.std.specs.Prelude.{◌≡◌, refl, true, false, List, ℕ, ◌+◌, ◌^◌, ◌<◌, ◌≤◌, length}
use Rattle.std.proofs.Common.{sym, ap, ◌∙◌, arith}
use Rattle.answer.specs.declared.Answer.TheVariants.{Done}
use Rattle.answer.specs.First.{first}
use Rattle.rtp.specs.Fec.{column, row}
use Rattle.window.specs.declared.Window.{Window}
use Rattle.window.specs.Limits.{least_missing, rows}
use Rattle.window.specs.Store.{Store}
use Rattle.window.specs.Order.{is_in_use, missing_at, disorder}
use Rattle.calls.specs.Content.{Recovery}
use Rattle.calls.specs.Accept.{accept_media, accept_parity}
use Rattle.calls.specs.Call.{Outcome, media_offer_tests, parity_offer_tests, begun, settled, refused, offered_media, offered_parity}
use Rattle.peel.specs.Peel as Peel
use Rattle.guarantee.specs.Packets.{Packet}
use Rattle.guarantee.specs.Order.{good-order}
use Rattle.guarantee.specs.Accepted.{Settled}
use Rattle.guarantee.proofs.Offers.{done_first, media-accepted, parity-accepted}
use Rattle.guarantee.specs.Demand3.{Port, mediaPort, columnPort, rowPort, Offer, call_of, offered}
use Rattle.guarantee.specs.Waiting.{itself, Left}

-- an offer that was done met no refusal
media-done : (w : Window) (g : List ℕ) (s : Store) (c q : ℕ) → (offered_media w g s).answer ≡ Done c q → first (media_offer_tests w g s) ≡ 0
unfolding offered_media
media-done w g s c q = done_first (media_offer_tests w g s) (settled (accept_media g (begun w s))) (refused (first (media_offer_tests w g s)) w s) (first (media_offer_tests w g s)) c q refl

-- the same of parity
parity-done : (stream : ℕ) (w : Window) (g : List ℕ) (s : Store) (c q : ℕ) → (offered_parity stream w g s).answer ≡ Done c q → first (parity_offer_tests w stream g s) ≡ 0
unfolding offered_parity
parity-done stream w g s c q =
    done_first (parity_offer_tests w stream g s) (settled (accept_parity stream g (begun w s))) (refused (first (parity_offer_tests w stream g s)) w s) (first (parity_offer_tests w stream g s)) c q refl

-- what settling leaves, read off the outcome
left_by : (p : Port) (w : Window) {s : Store} {o : Peel.Offer (ℕ × ℕ) Recovery Packet} {x : Outcome} (c q : ℕ) → Settled w w.present s o (itself p) x → x.answer ≡ Done c q → Left p w c x
left_by p w {x = x} c q t e = record {
  in_order = rw t.window (good-order w t.present t.used x.store t.order);
  waits = rw t.window t.order.waits.least;
  rise = let z : c ≡ t.count = cc in ap (λ v. v.present) t.window ∙ t.rise ∙ ap (λ n. w.present + itself p + n) (sym z);
}

-- every accepted offer leaves that
left : (p : Port) (g : List ℕ) (w : Window) (s : Store) (c q : ℕ) → w.base < 2 ^ 16 → (call_of p w g s).answer ≡ Done c q → Left p w c (call_of p w g s)
left mediaPort g w s c q h e = left_by mediaPort w c q (media-accepted w h w.present w.in_use s g (media-done w g s c q e)) e
left columnPort g w s c q h e = left_by columnPort w c q (parity-accepted w h w.present w.in_use s g column (omega arith) (parity-done column w g s c q e)) e
left rowPort g w s c q h e = left_by rowPort w c q (parity-accepted w h w.present w.in_use s g row (omega arith) (parity-done row w g s c q e)) e

module _ (o : Offer) (w : Window) (s : Store) (count spoilt : ℕ) (base-fits : w.base < 2 ^ 16) (accepted : (offered o w s).answer ≡ Done count spoilt) where
  -- after an accepted offer the store is in order
  pub settled-order : disorder (offered o w s).window (offered o w s).store ≡ false
  settled-order = (left o.port o.datagram w s count spoilt base-fits accepted).in_order

  -- and every record in use covers at least two missing packets
  pub settled-waiting : (r : ℕ) → r < rows (offered o w s).window → is_in_use (offered o w s).window (offered o w s).store r ≡ true
      → least_missing ≤ length (missing_at (offered o w s).window (offered o w s).store r)
  settled-waiting = (left o.port o.datagram w s count spoilt base-fits accepted).waits

  -- the count is the rise in packets present, less the media packet itself
  pub rebuilt-is-rise : (offered o w s).window.present ≡ w.present + itself o.port + count
  rebuilt-is-rise = (left o.port o.datagram w s count spoilt base-fits accepted).rise
