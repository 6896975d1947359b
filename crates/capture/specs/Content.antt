-- A capture file (02, request 2): what it holds, and its bytes.
use Rattle.std.specs.Prelude.{List, [], ◌∷◌, ◌++◌, ℕ, ◌+◌, ◌*◌, ◌≤◌, ◌<◌, length}
use Rattle.rtp.specs.Bytes.{bytes16, bytes32}
use Rattle.capture.specs.Bytes.{Bytes}

-- bytes of the header
abbrev pub header_size : ℕ
header_size = 12

-- bytes of a line of the table of contents
abbrev pub line_size : ℕ
line_size = 8

-- most entries of a file
abbrev pub most_entries : ℕ
most_entries = 512

-- most bytes of a body
abbrev pub most_body : ℕ
most_body = 1500

-- a datagram as it came in: its port (1 media, 2 column, 3 row) and its bytes
pub record Entry : Type 0 where
  pub port : ℕ
  pub body : List ℕ

-- what a file holds: the numbers of a set-up, and the entries in order of arrival
pub record Content : Type 0 where
  pub l : ℕ
  pub d : ℕ
  pub p : ℕ
  pub base : ℕ
  pub n : ℕ
  pub k : ℕ
  pub entries : List Entry

-- the header: entry count, L, D, P, base, n, K, big-endian
abbrev pub header : (count l d p base n k : ℕ) → List ℕ
header count l d p base n k = bytes16 count ++ (l ∷ d ∷ []) ++ bytes16 p ++ bytes16 base ++ bytes16 n ++ bytes16 k

-- a line of the table of contents: port, a zero, the body's length, and where it starts, counted from the file's first byte
abbrev pub line_of : (port size start : ℕ) → List ℕ
line_of port size start = port ∷ 0 ∷ bytes16 size ++ bytes32 start

-- the table of contents, whose first body starts at a place: each body starts where the one before it ends
abbrev pub table : (start : ℕ) → List Entry → List ℕ
table start [] = []
table start (e ∷ es) = line_of e.port (length e.body) start ++ table (start + length e.body) es

-- the bodies in the order of the table, without gaps
abbrev pub bodies : List Entry → List ℕ
bodies [] = []
bodies (e ∷ es) = e.body ++ bodies es

-- where the table of so many entries ends, and the bodies start
abbrev pub table_end : (count : ℕ) → ℕ
table_end count = header_size + line_size * count

-- the file of a content: header, table, bodies, and nothing after
unfoldable pub file_of : Content → List ℕ
file_of c =
    header (length c.entries) c.l c.d c.p c.base c.n c.k
    ++ table (table_end (length c.entries)) c.entries
    ++ bodies c.entries

-- an entry that a file can hold: a port from 1 to 3, and at most 1,500 bytes
pub record ProperEntry (e : Entry) : Type 0 where
  pub from : 1 ≤ e.port
  pub to : e.port ≤ 3
  pub short : length e.body ≤ most_body
  pub bytes : Bytes e.body

-- each entry is one that a file can hold
abbrev pub ProperEntries : List Entry → Type 0
ProperEntries [] = Unit {0}
ProperEntries (e ∷ es) = ProperEntry e × ProperEntries es

-- a content that has a file: at most 512 entries that a file can hold, and numbers that fit their fields
pub record Proper (c : Content) : Type 0 where
  pub few : length c.entries ≤ most_entries
  pub l-fits : c.l < 256
  pub d-fits : c.d < 256
  pub p-fits : c.p < 65536
  pub base-fits : c.base < 65536
  pub n-fits : c.n < 65536
  pub k-fits : c.k < 65536
  pub each : ProperEntries c.entries
