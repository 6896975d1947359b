-- Parity that contradicts its whole group (02, request 6), computed through the calls on the window of Night.antt: the column of positions 0, 4,
-- 8 and 12, all of them present. The true one is accepted; one that differs in anything is refused with 18, and nothing is altered.
use Rattle.std.specs.Prelude.{List, [], ◌∷◌, ℕ, set}
use Rattle.rtp.specs.Fec.{column}
use Rattle.window.specs.Group.{group}
use Rattle.calls.specs.Content.{Recovery}
use Rattle.guarantee.specs.Demand3.{recovery_sent}
use Rattle.guarantee.specs.Night.{window, stretch}

-- what it gives: timestamp recovery 15,872, length recovery 0, and 376 bytes of payload, the last of them 8
abbrev pub true-one : Recovery
true-one = recovery_sent window stretch (group window column 65530)

-- the column with another timestamp recovery, length recovery, payload, or length of the payload
unfoldable pub other : (timestamp length : ℕ) (payload : List ℕ) (size : ℕ) → Recovery
other timestamp length payload size = record { content = record { timestamp = timestamp; length = length; payload = payload }; size = size }

-- the last bit of the timestamp recovery is another; that of the length recovery; that of the payload; or the payload's second half is left out
unfoldable pub others : List Recovery
others =
    other 15873 0 true-one.content.payload 376
    ∷ other true-one.content.timestamp 1 true-one.content.payload 376
    ∷ other true-one.content.timestamp 0 (set true-one.content.payload 375 9) 376
    ∷ other true-one.content.timestamp 0 true-one.content.payload 188
    ∷ []
