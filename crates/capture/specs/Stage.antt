-- A file judged byte by byte, in a few numbers: bytes of the header and the entry count so far; in a line of the table, the lines
-- after it, where its body has to start, the bytes of all bodies before it, how many bytes of it were read and its length so far; bytes of
-- bodies to come; refused.
use Rattle.std.specs.Prelude.{Bool, true, false, cond, ◌&&◌, List, [], ◌∷◌, ◌++◌, ℕ, zero, suc, ◌+◌, ◌*◌, ◌-◌, ◌/◌, ◌%◌, eqb, ltb, leb}
use Rattle.capture.specs.Content.{header_size, line_size, most_entries, most_body, table_end}
pub use Rattle.capture.specs.declared.Stage.{Stage}
pub use Rattle.capture.specs.declared.Stage.TheVariants.{Head as head, Line as line, Body as body, Refused as refused}

-- a further line of the table, or the bodies: lines to come, where the next body starts, and the bytes of all bodies so far
abbrev pub enter : (left next sum : ℕ) → Stage
enter zero next sum = body sum
enter (suc left) next sum = line left next sum 0 0

-- the byte of a start at a place of its line, from 4 to 7
abbrev pub start_byte : (next at : ℕ) → ℕ
start_byte next at =
    cond (eqb at 4) (next / 16777216 % 256) (cond (eqb at 5) (next / 65536 % 256) (cond (eqb at 6) (next / 256 % 256) (next % 256)))

-- whether a byte may stand at a place of a line: a port, a zero, a length up to 1,500, and the start that follows from the lengths
abbrev pub good_byte : (next at size b : ℕ) → Bool
good_byte next at size b =
    cond (eqb at 0) (ltb 0 b && ltb b 4)
    (cond (eqb at 1) (eqb b 0)
    (cond (ltb at 4) (leb (size * 256 + b) most_body)
    (eqb b (start_byte next at))))

-- a line's length so far, after a byte at a place
abbrev pub size_after : (at size b : ℕ) → ℕ
size_after at size b = cond (ltb at 2) size (cond (ltb at 4) (size * 256 + b) size)

-- after so many bytes of a line
abbrev pub lined : (left next sum at size : ℕ) → Stage
lined left next sum at size = cond (eqb at line_size) (enter left (next + size) (sum + size)) (line left next sum at size)

-- after so many bytes of the header
abbrev pub headed : (at count : ℕ) → Stage
headed at count = cond (eqb at header_size) (enter count (table_end count) 0) (head at count)

-- the entry count so far, after a byte at a place of the header
abbrev pub count_after : (at count b : ℕ) → ℕ
count_after at count b = cond (ltb at 2) (count * 256 + b) count

-- a byte of the bodies, of which so many are to come: none may follow the last
abbrev pub less : (left : ℕ) → Stage
less zero = refused
less (suc left) = body left

-- one byte more
abbrev pub feed : ℕ → Stage → Stage
feed b (head at count) = cond (leb (count_after at count b) most_entries) (headed (at + 1) (count_after at count b)) refused
feed b (line left next sum at size) = cond (good_byte next at size b) (lined left next sum (at + 1) (size_after at size b)) refused
feed b (body left) = less left
feed b refused = refused

-- so many bytes more
abbrev pub run : Stage → List ℕ → Stage
run r [] = r
run r (b ∷ l) = run (feed b r) l

-- whether a file may end here
abbrev pub whole : Stage → Bool
whole (head at count) = false
whole (line left next sum at size) = false
whole (body left) = eqb left 0
whole refused = false

-- before the first byte
abbrev pub start : Stage
start = head 0 0

-- whether some bytes are a capture file
unfoldable pub judge : List ℕ → Bool
judge file = whole (run start file)

-- pieces one after the other
abbrev pub joined : List (List ℕ) → List ℕ
joined [] = []
joined (a ∷ more) = a ++ joined more

-- where bytes are only counted: in the bodies, and once refused
abbrev pub counts : Stage → Bool
counts (head at count) = false
counts (line left next sum at size) = false
counts (body left) = true
counts refused = true

-- so many bytes more, where they are only counted
abbrev pub skipped : ℕ → Stage → Stage
skipped n (head at count) = head at count
skipped n (line left next sum at size) = line left next sum at size
skipped n (body left) = cond (leb n left) (body (left - n)) refused
skipped n refused = refused
