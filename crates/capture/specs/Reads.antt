-- What is read back from a file, by position.
use Rattle.std.specs.Prelude.{◌≡◌, List, [], ◌∷◌, ◌++◌, ℕ, zero, suc, ◌+◌, ◌*◌, ◌≤◌, ◌<◌, length, take, drop}
use Rattle.rtp.specs.Bytes.{byte, be16, be32}
use Rattle.capture.specs.Content.{Entry, Content, table, bodies, table_end, ProperEntries}

-- how many entries a file says that it has
abbrev pub count_at : List ℕ → ℕ
count_at file = be16 (byte file 0) (byte file 1)

-- ---- line i of the table
-- the port
abbrev pub port_at : List ℕ → ℕ → ℕ
port_at file i = byte file (table_end i)

-- the length of the body
abbrev pub size_at : List ℕ → ℕ → ℕ
size_at file i = be16 (byte file (table_end i + 2)) (byte file (table_end i + 3))

-- where the body starts
abbrev pub start_at : List ℕ → ℕ → ℕ
start_at file i = be32 (byte file (table_end i + 4)) (byte file (table_end i + 5)) (byte file (table_end i + 6)) (byte file (table_end i + 7))

-- the body: as many bytes from there on
abbrev pub body_at : List ℕ → ℕ → List ℕ
body_at file i = take (size_at file i) (drop (start_at file i) file)

-- entry i
abbrev pub entry_at : List ℕ → ℕ → Entry
entry_at file i = record { port = port_at file i; body = body_at file i }

-- so many entries, from entry i on
abbrev pub entries_from : List ℕ → (i : ℕ) → ℕ → List Entry
entries_from file i zero = []
entries_from file i (suc n) = entry_at file i ∷ entries_from file (suc i) n

-- the content of a file: the numbers of its header, and as many entries as it says
unfoldable pub content_of : List ℕ → Content
content_of file = record {
  l = byte file 2;
  d = byte file 3;
  p = be16 (byte file 4) (byte file 5);
  base = be16 (byte file 6) (byte file 7);
  n = be16 (byte file 8) (byte file 9);
  k = be16 (byte file 10) (byte file 11);
  entries = entries_from file 0 (count_at file);
}

-- a file at line i of its table: the lines of some entries come, and their bodies, the first at a start
pub record Standing (file : List ℕ) (es : List Entry) (i start : ℕ) : Type 0 where
  pub before : List ℕ
  pub between : List ℕ
  pub each : ProperEntries es
  pub is : file ≡ before ++ (table start es ++ (between ++ bodies es))
  pub place : length before ≡ table_end i
  pub begins : start ≡ length before + 8 * length es + length between
  pub small : start + 1500 * length es < 4294967296

-- what is read at line i
pub record Line (file : List ℕ) (e : Entry) (i start : ℕ) : Type 0 where
  pub port-is : port_at file i ≡ e.port
  pub size_is : size_at file i ≡ length e.body
  pub start_is : start_at file i ≡ start
  pub body_is : take (length e.body) (drop start file) ≡ e.body
  pub fits : start + length e.body ≤ length file

-- ---- the bodies one after another
-- where body i starts, by the lengths before it
abbrev pub place_of : List ℕ → ℕ → ℕ
place_of file zero = table_end (count_at file)
place_of file (suc i) = place_of file i + size_at file i

pub record Row (file : List ℕ) (i : ℕ) : Type 0 where
  pub from : 1 ≤ port_at file i
  pub to : port_at file i ≤ 3
  pub short : size_at file i ≤ 1500
  pub start : start_at file i ≡ place_of file i
  pub fits : place_of file i + size_at file i ≤ length file
