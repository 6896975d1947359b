-- The customer's night goes on: a column waits for two packets while the window moves by one, rebuilds the last of its group when the other
-- comes, and all of it is written out when the window moves by n. Through the calls, as Night.antt.
use Rattle.std.specs.Prelude.{List, [], ◌∷◌, ℕ, ◌*◌, ◌%◌, replicate}
use Rattle.rtp.specs.Fec.{column}
use Rattle.window.specs.Group.{group}
use Rattle.calls.specs.Datagram.{parity_packet}
use Rattle.guarantee.specs.Demand3.{columnPort, Offer, recovery_sent}
use Rattle.guarantee.specs.Night.{window, stretch, outer, media}
use Rattle.guarantee.specs.Life.{Event, offer, move, Feed}

-- the column of positions 1, 5, 9, 13: numbers 65,531, 65,535, 3, 7
unfoldable pub second : Offer
second = record { port = columnPort; datagram = parity_packet outer column 4 4 65531 (recovery_sent window stretch (group window column 65531)) }

-- a move by a number of positions into outputs full of sevens, of just the size that is needed
unfoldable pub move_by : ℕ → Event
move_by by = move by (replicate (by * 388) 7) (replicate by 7)

-- two packets of the column and its parity come, then the window moves by one; a packet that left comes late, a move by more than n is
-- refused; the third packet of the column comes, and the window moves by n
unfoldable pub events : List Event
events = offer (media 5) ∷ offer second ∷ offer (media 9) ∷ move_by 1 ∷ offer (media 0) ∷ move_by 17 ∷ offer (media 1) ∷ move_by 16 ∷ []

-- ---- by the theorem on lives
-- the stretch of the night, again and again
unfoldable pub feed : Feed
feed j = stretch (j % 16)
