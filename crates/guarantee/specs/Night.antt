-- The customer's night, as an instance of demand 3 and through the calls: a column that runs across the wrap of the sequence counter
-- rebuilds the packet that is missing, byte for byte and at its own length, with repeats refused on the way.
use Rattle.std.specs.Prelude.{cond, ℕ, ◌+◌, ◌*◌, ◌%◌, eqb, replicate}
use mathlib.Core.List.{List, [], ◌∷◌, ◌++◌}
use Rattle.rtp.specs.Fec.{column}
use Rattle.window.specs.declared.Window.{Window}
use Rattle.window.specs.Limits.{width}
use Rattle.window.specs.Store.{Store}
use Rattle.window.specs.Group.{group}
use Rattle.sequence.specs.Wrap.{number_at}
use Rattle.calls.specs.Datagram.{media_packet, Outer, parity_packet}
use Rattle.calls.specs.Call.{Outcome, asked, opened}
use Rattle.guarantee.specs.Bench.{uncleared_store}
use Rattle.guarantee.specs.Demand3.{mediaPort, columnPort, Offer, run, Stretch, content_sent, recovery_sent}

-- base 65,530, L = D = 4, P = 376, n = 16, K = 1
abbrev pub window : Window
window = asked 65530 0 4 4 376 16 1

-- a store of just the size that is needed, full of sevens
abbrev pub lent : Store
lent = uncleared_store window

-- a packet of a transport stream: its first byte is the sync byte, the others tell where it was sent
unfoldable pub ts_packet : ℕ → List ℕ
ts_packet i = 0x47 ∷ replicate 187 (i + 1)

-- each packet has one of them, but every eighth has two
unfoldable pub stretch : Stretch
stretch i = record { timestamp = 1000 * i; payload = cond (eqb (i % 8) 0) (ts_packet i ++ ts_packet i) (ts_packet i) }

-- the outer header of the parity packet
unfoldable pub outer : Outer
outer = record { sequence = 7; timestamp = 0; ssrc = 0 }

-- the media packet of a position
unfoldable pub media : ℕ → Offer
media i = record { port = mediaPort; datagram = media_packet (number_at width 65530 i) 0 (content_sent window stretch i) }

-- the column of positions 0, 4, 8, 12: numbers 65,530, 65,534, 2, 6, of two units, one, two and one
unfoldable pub parity : Offer
parity = record { port = columnPort; datagram = parity_packet outer column 4 4 65530 (recovery_sent window stretch (group window column 65530)) }

-- all of the column but its last packet; the column and one packet come twice
unfoldable pub offers : List Offer
offers = media 0 ∷ parity ∷ media 8 ∷ parity ∷ media 8 ∷ media 4 ∷ []

-- what they leave on a freshly opened window
abbrev pub morning : Outcome
morning = run (opened window lent) offers
