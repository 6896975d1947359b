-- The file of lent parts, and the parts of a content.
use Rattle.std.specs.Prelude.{◌≡◌, true, List, ◌++◌, ℕ, ◌≤◌, ◌<◌, length}
use Rattle.sequence.specs.Lists.{all}
use Rattle.capture.specs.Content.{most_entries, header, table_end}
use Rattle.capture.specs.Calls.{Parts, total, good_port, short_body, lines}

-- what is known of lists that fit
pub record Fit (ports lengths : List ℕ) (bytes : ℕ) : Type 0 where
  pub same : length ports ≡ length lengths
  pub few : length ports ≤ most_entries
  pub ports-good : all good_port ports ≡ true
  pub good_lengths : all short_body lengths ≡ true
  pub adds_up : total lengths ≡ bytes

-- what is known of numbers that fit their fields
pub record Fields (l d p base n k : ℕ) : Type 0 where
  pub l-fits : l < 256
  pub d-fits : d < 256
  pub p-fits : p < 65536
  pub base-fits : base < 65536
  pub n-fits : n < 65536
  pub k-fits : k < 65536

-- the front of a file: header and table of lent lists
abbrev pub front_of : Parts → List ℕ
front_of x =
    header (length x.ports) x.l x.d x.p x.base x.n x.k ++ lines (table_end (length x.ports)) x.ports x.lengths
