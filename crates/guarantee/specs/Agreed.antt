-- What refusal 18 buys (02, request 6): a parity packet that finds its whole group present and is accepted is the one that the group defines,
-- byte for byte; and the one that the window writes of a whole group never contradicts it.
use Rattle.std.specs.Prelude.{ℕ}
use mathlib.Core.List.{List}
use Rattle.rtp.specs.Rtp.{sequence_number, timestamp, ssrc}
use Rattle.calls.specs.Datagram.{Outer}

-- what a parity datagram itself carries of what the documents leave free: its RTP sequence number, timestamp and SSRC
abbrev pub outer_of : List ℕ → Outer
outer_of g = record { sequence = sequence_number g; timestamp = timestamp g; ssrc = ssrc g }
