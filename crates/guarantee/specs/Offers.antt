-- The offers (calls' Call.antt): what an accepted one leaves, and that a refused one changes nothing.
use Rattle.std.specs.Prelude.{List, ℕ}
use Rattle.rtp.specs.Rtp.{sequence_number}
use Rattle.rtp.specs.Fec.{snbase}
use Rattle.window.specs.declared.Window.{Window}
use Rattle.window.specs.Group.{position}
use Rattle.calls.specs.Content.{Recovery}
use Rattle.calls.specs.Accept.{content_of, recovery_of}
use Rattle.peel.specs.Peel.{Offer, media, check}
use Rattle.guarantee.specs.Packets.{Packet, packet_of}

-- a media datagram as the theory sees it: a packet at its position
abbrev pub media_seen : Window → List ℕ → Offer (ℕ × ℕ) Recovery Packet
media_seen w g = media (position w (sequence_number g)) (packet_of (content_of w.p g))

-- a parity datagram: the check of its group
abbrev pub parity_seen : Window → (stream : ℕ) → List ℕ → Offer (ℕ × ℕ) Recovery Packet
parity_seen w stream g = check (stream, snbase g) (recovery_of w.p g)
