-- The customer's night goes on: a column waits for two packets while the window moves by one, rebuilds the last of its group when the other
-- comes, and all of it is written out when the window moves by n. Through the calls, as Night.antt.
use Rattle.std.specs.Prelude.{◌≡◌, refl, [], ◌∷◌, ◌%◌}
use Rattle.std.proofs.Common.{inl, inr, mod-lt, arith}
use Rattle.answer.specs.First.{first}
use Rattle.peel.specs.Rest.{rounds}
use Rattle.window.specs.Order.{disorder}
use Rattle.calls.specs.State.{rebuild}
use Rattle.calls.specs.Settle.{next, release_all, round, settle}
use Rattle.calls.specs.Call.{asked, opened, offered_media, offered_parity}
use Rattle.calls.specs.Move.{release_behind, moved}
use Rattle.guarantee.specs.Night.{window, lent, ts_packet, stretch, outer, media}
use Rattle.guarantee.proofs.Night.{fills}
use Rattle.guarantee.proofs.Lived.{life}
use Rattle.guarantee.specs.Life.{born, after, Feeds, AllFair, Lived}
use Rattle.guarantee.specs.Dawn.{second, move_by, events, feed}

-- the datagrams written out: those of the column, also the one that was never received
pub handed : (after (born (opened window lent)) events).gone
    ≡ [] ∷ (media 1).datagram ∷ [] ∷ [] ∷ [] ∷ (media 5).datagram ∷ [] ∷ [] ∷ [] ∷ (media 9).datagram ∷ [] ∷ [] ∷ [] ∷ (media 13).datagram ∷ [] ∷ [] ∷ [] ∷ []
unfolding after events move_by second media outer stretch ts_packet first opened offered_media offered_parity disorder settle round next release_all rebuild rounds moved release_behind
handed = refl

-- and the window value then: base 65,530 + 17 modulo 65,536, nothing present and nothing in hand
pub left_with : (after (born (opened window lent)) events).window ≡ asked 11 0 4 4 376 16 1
unfolding after events move_by second media outer stretch ts_packet first opened offered_media offered_parity disorder settle round next release_all rebuild rounds moved release_behind
left_with = refl

-- is a feed
feeds : Feeds 376 feed
unfolding feed
feeds = record {
  timestamp-fits = λ j. fills.timestamp-fits (j % 16) (mod-lt j (omega arith));
  size = λ j. fills.size (j % 16) (mod-lt j (omega arith));
  bytes = λ j. fills.bytes (j % 16) (mod-lt j (omega arith));
}

-- each event is fair at its moment
fair : AllFair feed (born (opened window lent)) events
unfolding AllFair after events move_by second media outer feed stretch ts_packet first opened offered_media offered_parity disorder settle round next release_all rebuild rounds moved release_behind
fair = (
  inl (record { place = 5; ssrc = 0; in_window = omega arith; ssrc-fits = omega arith; is = refl }),
  (
    inl (record { snbase = 65531; outer = outer; snbase-fits = omega arith; sequence-fits = omega arith; timestamp-fits = omega arith; ssrc-fits = omega arith; permitted = refl; in_window = refl; is = refl }),
    (
      inl (record { place = 9; ssrc = 0; in_window = omega arith; ssrc-fits = omega arith; is = refl }),
      (
        tt,
        (
          inr (λ e. omega arith),
          (
            tt,
            (
              inl (record { place = 0; ssrc = 0; in_window = omega arith; ssrc-fits = omega arith; is = refl }),
              (tt, tt),
            ),
          ),
        ),
      ),
    ),
  ),
)

-- so the life is as the theorem says
pub dawn : Lived window feed (after (born (opened window lent)) events)
unfolding first opened
dawn = life 65530 0 4 4 376 16 1 lent feed events (after (born (opened window lent)) events) (record { base-fits = omega arith; feeds = feeds; fresh = refl; fair = fair; is = refl })
