-- Positions, groups and their missing members (01, "Setting up a window", "Bytes on the wire").
use Rattle.std.specs.Prelude.{Bool, not, List, map, ℕ, eqb, ltb, get_or}
use Rattle.sequence.specs.Lists.{all, keep}
use Rattle.sequence.specs.Wrap.{ahead, members}
use Rattle.rtp.specs.Fec.{offset_of, na_of}
use Rattle.window.specs.declared.Window.{Window}
use Rattle.window.specs.Limits.{width}

-- the position of a number
abbrev pub position : Window → ℕ → ℕ
position w number = ahead width w.base number

-- the positions of the members of the group of a stream that starts at SNBase
abbrev pub group : Window → (stream snbase : ℕ) → List ℕ
group w stream snbase = map (position w) (members width snbase (offset_of stream w.l) (na_of stream w.l w.d))

-- every member lies in the window
abbrev pub inside : Window → (stream snbase : ℕ) → Bool
inside w stream snbase = all (λ i. ltb i w.n) (group w stream snbase)

-- the packet of a position is missing: its mark is 0
abbrev pub is_missing : (marks : List ℕ) → ℕ → Bool
is_missing marks i = eqb (get_or marks i 0) 0

-- the positions of a list that are missing
abbrev pub missing : (marks : List ℕ) → List ℕ → List ℕ
missing marks g = keep (is_missing marks) g

-- the positions of a list that are held
abbrev pub present : (marks : List ℕ) → List ℕ → List ℕ
present marks g = keep (λ i. not (is_missing marks i)) g
