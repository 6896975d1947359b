-- Sequence numbers of w bits, which wrap: 16 for RTP.
use Rattle.std.specs.Prelude.{ℕ, ◌+◌, ◌-◌, ◌*◌, ◌%◌, ◌^◌, List, map}
use Rattle.sequence.specs.Lists.{up_to}

-- how far a number lies ahead of a base, counted with wrap: its position in a window that starts at the base (01, "Setting up a window")
abbrev pub ahead : (w base number : ℕ) → ℕ
ahead w base number = (number + (2 ^ w - base)) % 2 ^ w

-- the number at a position (01, "Setting up a window")
abbrev pub number_at : (w base i : ℕ) → ℕ
number_at w base i = (base + i) % 2 ^ w

-- the j-th member of the group that starts at SNBase and goes on in steps of Offset (01, "Bytes on the wire")
abbrev pub member : (w snbase offset j : ℕ) → ℕ
member w snbase offset j = (snbase + j * offset) % 2 ^ w

-- all members of a group, in order
abbrev pub members : (w snbase offset na : ℕ) → List ℕ
members w snbase offset na = map (member w snbase offset) (up_to na)
