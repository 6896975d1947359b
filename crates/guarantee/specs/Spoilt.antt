-- Spoilt parity (02, request 1), computed through the calls on the window of Night.antt: a column whose length recovery or payload is not
-- what the Code defines. What it gives for its one missing packet does not fit, so the packet stays missing, the parity is let go, and the
-- answer counts it.
use Rattle.std.specs.Prelude.{List, [], ◌∷◌, ℕ}
use Rattle.rtp.specs.Fec.{column}
use Rattle.window.specs.Group.{group}
use Rattle.calls.specs.Content.{Recovery}
use Rattle.guarantee.specs.Demand3.{recovery_sent}
use Rattle.guarantee.specs.Night.{window, stretch}

-- what the column of positions 0, 4, 8 and 12 carries when it is sent: length recovery 0, and 376 bytes of payload
abbrev pub honest : Recovery
honest = recovery_sent window stretch (group window column 65530)

-- the payload that gives only zeros for position 12
abbrev pub nothing : List ℕ
nothing = (recovery_sent window stretch (0 ∷ 4 ∷ 8 ∷ [])).content.payload
