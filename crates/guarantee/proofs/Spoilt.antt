-- Spoilt parity (02, request 1), computed through the calls on the window of Night.antt: a column whose length recovery or payload is not
-- what the Code defines. What it gives for its one missing packet does not fit, so the packet stays missing, the parity is let go, and the
-- answer counts it.
use Rattle.std.specs.Prelude.{◌≡◌, refl, List, [], ◌∷◌, map, ℕ, replicate, set}
use Rattle.answer.specs.declared.Answer.{Answer}
use Rattle.answer.specs.declared.Answer.TheVariants.{Done}
use Rattle.answer.specs.First.{first}
use Rattle.peel.specs.Rest.{rounds}
use Rattle.rtp.specs.Fec.{column}
use Rattle.window.specs.Order.{disorder}
use Rattle.calls.specs.Content.{Recovery}
use Rattle.calls.specs.Datagram.{parity_packet}
use Rattle.calls.specs.State.{rebuild}
use Rattle.calls.specs.Settle.{next, release_all, round, settle}
use Rattle.calls.specs.Call.{opened, offered_media, offered_parity}
use Rattle.guarantee.specs.Demand3.{columnPort, Offer, run, answers, mark_at}
use Rattle.guarantee.specs.Night.{window, lent, ts_packet, stretch, outer, media}
use Rattle.guarantee.specs.Spoilt.{honest, nothing}

-- the column with another length recovery, payload, or length of the payload
lie : (length : ℕ) (payload : List ℕ) (size : ℕ) → Recovery
lie length payload size = record { content = record { timestamp = honest.content.timestamp; length = length; payload = payload }; size = size }

-- for position 12 the length is zero; or 100, not in units; or 376, above the parity packet's own payload; or a byte past it is not zero, within
-- the parity packet's own payload or past that
pub lies : List Recovery
lies =
    lie 188 nothing 376
    ∷ lie 216 nothing 376
    ∷ lie 452 honest.content.payload 188
    ∷ lie 0 (set honest.content.payload 200 1) 376
    ∷ lie 0 honest.content.payload 188
    ∷ []

-- the column with that
pub column_with : Recovery → Offer
column_with v = record { port = columnPort; datagram = parity_packet outer column 4 4 65530 v }

-- the column comes last, and finds one packet missing
pub offered_last : Recovery → List Offer
offered_last v = media 0 ∷ media 4 ∷ media 8 ∷ column_with v ∷ []

-- or it comes first, and is in hand when all but one are there
pub in_hand : Recovery → List Offer
in_hand v = column_with v ∷ media 0 ∷ media 4 ∷ media 8 ∷ []

-- what a list is answered with, then the mark of position 12 and how many records are in use
pub left : List Offer → List Answer × ℕ × ℕ
left offers = let x = run (opened window lent) offers in (answers (opened window lent) offers, mark_at x.store 12, x.window.in_use)

-- each lie is found, either way
pub found : map (λ v. left (offered_last v)) lies ≡ replicate 5 (Done 0 0 ∷ Done 0 0 ∷ Done 0 0 ∷ Done 0 1 ∷ [], 0, 0)
unfolding left lies lie offered_last column_with run answers media outer stretch ts_packet first opened offered_media offered_parity disorder settle round next release_all rebuild rounds
found = refl

pub found_in_hand : map (λ v. left (in_hand v)) lies ≡ replicate 5 (Done 0 0 ∷ Done 0 0 ∷ Done 0 0 ∷ Done 0 1 ∷ [], 0, 0)
unfolding left lies lie in_hand column_with run answers media outer stretch ts_packet first opened offered_media offered_parity disorder settle round next release_all rebuild rounds
found_in_hand = refl

-- and the honest column gives the packet
pub honest_rebuilds : left (offered_last honest) ≡ (Done 0 0 ∷ Done 0 0 ∷ Done 0 0 ∷ Done 1 0 ∷ [], 1, 0)
unfolding left offered_last column_with run answers media outer stretch ts_packet first opened offered_media offered_parity disorder settle round next release_all rebuild rounds
honest_rebuilds = refl
