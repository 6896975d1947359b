-- Parity that contradicts its whole group (02, request 6), computed through the calls on the window of Night.antt: the column of positions 0, 4,
-- 8 and 12, all of them present. The true one is accepted; one that differs in anything is refused with 18, and nothing is altered.
use Rattle.std.specs.Prelude.{◌≡◌, refl, [], ◌∷◌, map, get_or, replicate}
use Rattle.answer.specs.declared.Answer.TheVariants.{Done}
use Rattle.answer.specs.First.{first}
use Rattle.peel.specs.Rest.{rounds}
use Rattle.rtp.specs.Fec.{column}
use Rattle.window.specs.Order.{disorder}
use Rattle.calls.specs.Content.{Recovery}
use Rattle.calls.specs.Datagram.{parity_packet}
use Rattle.calls.specs.State.{rebuild}
use Rattle.calls.specs.Settle.{next, release_all, round, settle}
use Rattle.calls.specs.Call.{Outcome, refused, opened, offered_media, offered_parity}
use Rattle.guarantee.specs.Demand3.{run}
use Rattle.guarantee.specs.Night.{window, lent, ts_packet, stretch, outer, media}
use Rattle.guarantee.specs.Told.{true-one, other, others}

-- the whole column is present
pub present : Outcome
present = run (opened window lent) (media 0 ∷ media 4 ∷ media 8 ∷ media 12 ∷ [])

-- so it is
pub true_numbers : (true-one.content.timestamp ≡ 15872) × (true-one.content.length ≡ 0) × (true-one.size ≡ 376) × (get_or true-one.content.payload 375 0 ≡ 8)
unfolding stretch ts_packet
true_numbers = (refl, refl, refl, refl)

-- the column with that is offered
pub told : Recovery → Outcome
told v = offered_parity column present.window (parity_packet outer column 4 4 65530 v) present.store

-- the true one is accepted, and leaves all as it was
pub true-accepted : told true-one ≡ record { answer = Done 0 0; window = present.window; store = present.store }
unfolding told present run media outer stretch ts_packet first opened offered_media offered_parity disorder settle round next release_all rebuild rounds
true-accepted = refl

-- each of the others is refused with 18, and leaves all as it was
pub others-refused : map told others ≡ replicate 4 (refused 18 present.window present.store)
unfolding told present others other run media outer stretch ts_packet first opened offered_media offered_parity disorder settle round next release_all rebuild rounds
others-refused = refl
