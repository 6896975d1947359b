-- The store that the caller lends, and how much of it a window needs: refusal 4 (01, "Setting up a window").
use Rattle.std.specs.Prelude.{Bool, ◌||◌, List, ℕ, ◌*◌, ltb, length, get_or, take, drop}
use Rattle.xor.specs.Xor.{padded}
use Rattle.window.specs.declared.Record.{Record}
use Rattle.window.specs.declared.Sizes.{Sizes}
use Rattle.window.specs.declared.StoreView.{StoreView}
use Rattle.window.specs.declared.Window.{Window}
use Rattle.window.specs.Record.{blank}
use Rattle.window.specs.Limits.{rows}

-- the lent store: for each position a payload, a timestamp, a length and a present mark; for each record a payload; and the table of records
pub record Store : Type 0 where
  pub media : List ℕ
  pub timestamps : List ℕ
  pub lengths : List ℕ
  pub marks : List ℕ
  pub parity : List ℕ
  pub records : List Record

-- a store of its six parts
abbrev pub stored : (media timestamps lengths marks parity : List ℕ) → List Record → Store
stored media timestamps lengths marks parity records =
    record { media = media; timestamps = timestamps; lengths = lengths; marks = marks; parity = parity; records = records }

-- the store of parts that are lent to be read, and of a table
abbrev pub viewed : StoreView → List Record → Store
viewed v records = stored v.media.now v.timestamps.now v.lengths.now v.marks.now v.parity.now records

-- how many elements each part has
abbrev pub sizes_of : Store → Sizes
sizes_of s =
    record {
      media = length s.media;
      timestamps = length s.timestamps;
      lengths = length s.lengths;
      marks = length s.marks;
      parity = length s.parity;
      records = length s.records;
    }

-- a part has fewer elements than the window needs
abbrev pub short_sizes : Window → Sizes → Bool
short_sizes w z =
    ltb z.media (w.n * w.p)
    || ltb z.timestamps w.n
    || ltb z.lengths w.n
    || ltb z.marks w.n
    || ltb z.parity (rows w * w.p)
    || ltb z.records (rows w)

-- 4: a part of the store is shorter than the window needs
abbrev pub short_store : Window → Store → Bool
short_store w s = short_sizes w (sizes_of s)

-- the payload of n bytes at an index of a part that has p bytes for each, with zeros up to p: what else stands there counts as zero
abbrev pub payload_in : (p : ℕ) → List ℕ → (n i : ℕ) → List ℕ
payload_in p part n i = padded p (take n (drop (i * p) part))

-- the timestamp kept at a position
abbrev pub timestamp_at : Store → ℕ → ℕ
timestamp_at s i = get_or s.timestamps i 0

-- the length kept at a position
abbrev pub length_at : Store → ℕ → ℕ
length_at s i = get_or s.lengths i 0

-- the payload kept at a position
abbrev pub payload_at : Window → Store → ℕ → List ℕ
payload_at w s i = payload_in w.p s.media (length_at s i) i

-- record r of the table
abbrev pub record_at : Store → ℕ → Record
record_at s r = get_or s.records r blank

-- the payload of a record
abbrev pub parity_at : Window → Store → ℕ → List ℕ
parity_at w s r = payload_in w.p s.parity (record_at s r).payload_length r
