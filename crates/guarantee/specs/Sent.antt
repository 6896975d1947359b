-- An unaltered offer as the theory of rebuilding sees it: it carries what was sent, has no fault, and is known by its name.
use Rattle.std.specs.Prelude.{ℕ}
use mathlib.Core.List.{List}
use Rattle.rtp.specs.Fec.{column, row}
use Rattle.window.specs.declared.Window.{Window}
use Rattle.calls.specs.Content.{Recovery}
use Rattle.peel.specs.Peel as Theory
use Rattle.guarantee.specs.Packets.{Packet, packet_of}
use Rattle.guarantee.specs.Offers.{media_seen, parity_seen}
use Rattle.guarantee.specs.Demand3.{Port, mediaPort, columnPort, rowPort, Offer, Stretch, content_sent}

-- ---- an offer as the theory sees it
-- the packet sent at a position
abbrev pub sent : Window → Stretch → ℕ → Packet
sent w t i = packet_of (content_sent w t i)

-- a datagram on a port
abbrev pub seen_on : Window → Port → List ℕ → Theory.Offer (ℕ × ℕ) Recovery Packet
seen_on w mediaPort g = media_seen w g
seen_on w columnPort g = parity_seen w column g
seen_on w rowPort g = parity_seen w row g

-- an offer
abbrev pub seen : Window → Offer → Theory.Offer (ℕ × ℕ) Recovery Packet
seen w o = seen_on w o.port o.datagram
