-- The calls on capture files (02, request 2): reading in pieces, the header and the entries of what was read, and writing.
use Rattle.std.specs.Prelude.{Bool, cond, not, ◌&&◌, ◌||◌, List, [], ◌∷◌, ◌++◌, ℕ, ◌+◌, ◌*◌, eqb, leb, ltb, length, take, drop}
use Rattle.answer.specs.First.{first}
use Rattle.sequence.specs.Lists.{all}
use Rattle.rtp.specs.Bytes.{byte, be16}
use Rattle.capture.specs.declared.Reader.{Reader}
use Rattle.capture.specs.declared.Reading.{Reading}
use Rattle.capture.specs.declared.Header.{Header}
use Rattle.capture.specs.declared.Line.{Line}
use Rattle.capture.specs.declared.Written.{Written}
use Rattle.capture.specs.Content.{Entry, Content, header_size, line_size, most_entries, most_body, line_of, table_end, file_of}
use Rattle.capture.specs.Stage.{Stage, head, line, body, refused, run, whole}
use Rattle.capture.specs.Reads.{count_at, port_at, size_at, start_at}

-- ---- reading a file, in pieces or at once

-- most bytes of all bodies
abbrev pub most_bodies : ℕ
most_bodies = most_body * most_entries

-- most bytes of a file
abbrev pub most_file : ℕ
most_file = table_end most_entries + most_bodies

-- a stage as the numbers that a card keeps
abbrev pub reader_of : Stage → Reader
reader_of (head at count) = record { stage = 0; left = count; next = 0; sum = 0; at = at; size = 0 }
reader_of (line left next sum at size) = record { stage = 1; left = left; next = next; sum = sum; at = at; size = size }
reader_of (body left) = record { stage = 2; left = left; next = 0; sum = 0; at = 0; size = 0 }
reader_of refused = record { stage = 3; left = 0; next = 0; sum = 0; at = 0; size = 0 }

-- numbers that a stage in the header can have
abbrev pub head_good : (at count : ℕ) → Bool
head_good at count = ltb at header_size && leb count most_entries

-- numbers that a stage in a line can have: what is to come fits into the longest file
abbrev pub line_good : (left next sum at size : ℕ) → Bool
line_good left next sum at size =
    ltb left most_entries && leb (next + most_body * left + most_body) most_file && leb (sum + most_body * left + most_body) most_bodies
    && ltb at line_size && leb size most_body

-- a stage in the header, in a line and in the bodies, of a card's numbers
abbrev pub head_from : (at count : ℕ) → Stage
head_from at count = cond (head_good at count) (head at count) refused

abbrev pub line_from : (left next sum at size : ℕ) → Stage
line_from left next sum at size = cond (line_good left next sum at size) (line left next sum at size) refused

abbrev pub body_from : (left : ℕ) → Stage
body_from left = cond (leb left most_bodies) (body left) refused

-- the stage of a card's numbers; numbers that no stage has are refused
abbrev pub stage_of : Reader → Stage
stage_of r =
    cond (eqb r.stage 0) (head_from r.at r.left)
    (cond (eqb r.stage 1) (line_from r.left r.next r.sum r.at r.size)
    (cond (eqb r.stage 2) (body_from r.left) refused))

-- 0 where a file may end at a stage, else 21
abbrev pub number_at : Stage → ℕ
number_at s = cond (whole s) 0 21

-- reading on: a piece more
unfoldable pub read_on : Reader → List ℕ → Reading
read_on r piece = record { number = number_at (run (stage_of r) piece); reader = reader_of (run (stage_of r) piece) }

-- ---- what the front of a file says: its header, and a line of its table

-- no header: 21
abbrev pub no_header : Header
no_header = record { number = 21; base = 0; count = 0; l = 0; d = 0; p = 0; n = 0; k = 0 }

-- the header of a file, of its first bytes: 21 where they are fewer than 12, or the entry count is above 512
unfoldable pub header_read : List ℕ → Header
header_read front =
    cond (ltb (length front) header_size || ltb most_entries (count_at front)) no_header
    (record {
      number = 0;
      base = be16 (byte front 6) (byte front 7);
      count = count_at front;
      l = byte front 2;
      d = byte front 3;
      p = be16 (byte front 4) (byte front 5);
      n = be16 (byte front 8) (byte front 9);
      k = be16 (byte front 10) (byte front 11);
    })

-- no entry: 21
abbrev pub no_entry : Line
no_entry = record { number = 21; port = 0; start = 0; length = 0 }

-- entry i of a file, of its first bytes: 21 where the header is refused, i is not below its count, or line i is not among these bytes
unfoldable pub entry_read : List ℕ → ℕ → Line
entry_read front i =
    cond (ltb i (header_read front).count && leb (table_end (i + 1)) (length front))
    (record { number = 0; port = port_at front i; start = start_at front i; length = size_at front i })
    no_entry

-- ---- writing a file

-- what a card lends to be written: the numbers of a set-up, the ports and lengths of the entries, and their bodies one after the other
pub record Parts : Type 0 where
  pub base : ℕ
  pub l : ℕ
  pub d : ℕ
  pub p : ℕ
  pub n : ℕ
  pub k : ℕ
  pub ports : List ℕ
  pub lengths : List ℕ
  pub bodies : List ℕ

-- the entries: each port with the next so many bytes
abbrev pub entries_of : (ports lengths bodies : List ℕ) → List Entry
entries_of [] lengths bodies = []
entries_of (port ∷ ports) [] bodies = []
entries_of (port ∷ ports) (size ∷ lengths) bodies = record { port = port; body = take size bodies } ∷ entries_of ports lengths (drop size bodies)

-- the content that is lent
abbrev pub content_of_parts : Parts → Content
content_of_parts x =
    record { l = x.l; d = x.d; p = x.p; base = x.base; n = x.n; k = x.k; entries = entries_of x.ports x.lengths x.bodies }

-- all lengths together
abbrev pub total : List ℕ → ℕ
total [] = 0
total (size ∷ lengths) = size + total lengths

-- a port: 1 media, 2 column, 3 row
abbrev pub good_port : ℕ → Bool
good_port port = leb 1 port && leb port 3

-- a body is not too long
abbrev pub short_body : ℕ → Bool
short_body size = leb size most_body

-- the numbers fit their fields
abbrev pub numbers_fit : (l d p base n k : ℕ) → Bool
numbers_fit l d p base n k = ltb l 256 && ltb d 256 && ltb p 65536 && ltb base 65536 && ltb n 65536 && ltb k 65536

-- the lists are those of entries that a file can hold: as many ports as lengths, 512 at most, and bodies, so many bytes, that add up
abbrev pub entries_fit : (ports lengths : List ℕ) (bodies : ℕ) → Bool
entries_fit ports lengths bodies =
    eqb (length ports) (length lengths) && leb (length ports) most_entries && all good_port ports && all short_body lengths && eqb (total lengths) bodies

-- what is lent is a proper content
abbrev pub parts_fit : Parts → Bool
parts_fit x = entries_fit x.ports x.lengths (length x.bodies) && numbers_fit x.l x.d x.p x.base x.n x.k

-- the tests of writing: 21 where what is lent is no proper content, 4 where the output is shorter than its file
abbrev pub write_tests : Parts → (out : List ℕ) → List (ℕ × Bool)
write_tests x out = (21, not (parts_fit x)) ∷ (4, ltb (length out) (length (file_of (content_of_parts x)))) ∷ []

-- what writing gives back, and leaves in the lent output
pub record Filed : Type 0 where
  pub written : Written
  pub out : List ℕ

-- writing a file: its bytes at the front of the output, the rest as it was, or the refusal
unfoldable pub wrote : Parts → (out : List ℕ) → Filed
wrote x out =
    cond (eqb (first (write_tests x out)) 0)
    (record {
      written = record { number = 0; count = length (file_of (content_of_parts x)) };
      out = file_of (content_of_parts x) ++ drop (length (file_of (content_of_parts x))) out;
    })
    (record { written = record { number = first (write_tests x out); count = 0 }; out = out })

-- ---- the table of what is lent, for the code
abbrev pub lines : (start : ℕ) (ports lengths : List ℕ) → List ℕ
lines start [] lengths = []
lines start (port ∷ ports) [] = []
lines start (port ∷ ports) (size ∷ lengths) = line_of port size start ++ lines (start + size) ports lengths
