-- Request 4's theorem, once over both arrangements: from an opening, each offer getting what the last one left, what goes out with each packet
-- taken is what the schedule has for it, byte for byte what the base writes for that group; and of what the schedule has, each group
-- goes out once.
use Rattle.std.specs.Prelude.{◌≡◌}
use Rattle.sender.specs.declared.Sender.{Sender}
use Rattle.sent.specs.Life.{Life, SetUp}
use Rattle.sent.specs.Lives.{Lives}

-- ---- a packet that goes out is the base's
-- the set-up numbers of a sender
abbrev pub set_up_of : Sender → SetUp
set_up_of s = record { first = s.first; arrangement = s.arrangement; l = s.l; d = s.d; p = s.p }

-- a sender of these set-up numbers that has taken some datagrams
pub record Goes (u : SetUp) (x : Life) : Type 0 where
  pub same : set_up_of x.sender ≡ u
  pub lives : Lives x.sender x.room x.taken
