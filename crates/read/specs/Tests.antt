-- What the code of reading out tests: the sizes of the lent store, and refusals 12, 13 and 17 over the marks alone.
use Rattle.std.specs.Prelude.{Bool, not, List, [], ◌∷◌, ℕ, length}
use Rattle.sequence.specs.Lists.{any}
use Rattle.rtp.specs.Faults.{no_row}
use Rattle.window.specs.declared.Sizes.{Sizes}
use Rattle.window.specs.declared.StoreView.{StoreView}
use Rattle.window.specs.declared.Window.{Window}
use Rattle.window.specs.Group.{group, inside, is_missing}

-- the sizes of a store that is lent to be read, whose table has as many records as is said
abbrev pub sizes_in : StoreView → (len : ℕ) → Sizes
sizes_in s len =
    record { media = length s.media.now; timestamps = length s.timestamps.now; lengths = length s.lengths.now; marks = length s.marks.now; parity = length s.parity.now; records = len }

-- a row where rows are not permitted; a member lies outside; a member is missing
abbrev pub group_tests : Window → (stream snbase : ℕ) → (marks : List ℕ) → List (ℕ × Bool)
group_tests w stream snbase marks =
    (12, no_row stream w.l)
    ∷ (13, not (inside w stream snbase))
    ∷ (17, any (is_missing marks) (group w stream snbase))
    ∷ []
