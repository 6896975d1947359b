-- What the calls on capture files promise: one content has one file, each way; what is written is read as it was; any other file is refused.
use Rattle.std.specs.Prelude.{◌≡◌, refl, Bool, true, false, cond, ◌||◌, List, [], ◌∷◌, ◌++◌, map, ℕ, zero, suc, ◌+◌, ◌*◌, ◌≤◌, ◌<◌, ltb, leb, get_or, take, drop}
use Rattle.std.proofs.Common.{sym, ap₂, ◌∙◌, append_assoc, arith, length-append, length-take, get_or-take}
use Rattle.std.proofs.Math.Path.{ap}
use borrow.Author.Tests.{lt-ltb, le-ltb, le-leb, ltb-false, leb-true}
use Rattle.std.proofs.Math.ListN.{length}
use Rattle.std.proofs.Math.Seq.{take-append_seam, drop-append_seam, length-take-le}
use Rattle.answer.specs.First.{first}
use Rattle.sequence.specs.Lists.{all}
use Rattle.sequence.proofs.Lists.{and_split, or_split}
use Rattle.rtp.specs.Bytes.{byte, be16}
use Rattle.capture.specs.declared.Reading.{Reading}
use Rattle.capture.specs.declared.Header.{Header}
use Rattle.capture.specs.Bytes.{Bytes}
use Rattle.capture.proofs.Bytes.{bytes_take, bytes_drop}
use Rattle.capture.specs.Content.{Entry, Content, header_size, line_size, most_entries, most_body, bodies, table_end, file_of, ProperEntries, Proper}
use Rattle.capture.specs.Stage.{Stage, head, line, body, refused, run, start, judge, joined}
use Rattle.capture.proofs.StageLaws.{run-append}
use Rattle.capture.specs.Small.{Small}
use Rattle.capture.proofs.Small.{run_small}
use Rattle.capture.specs.Reads.{count_at, entries_from, content_of}
use Rattle.capture.proofs.ReadsLaws.{read_back}
use Rattle.capture.specs.Calls.{most_bodies, most_file, reader_of, stage_of, number_at, read_on, no_header, header_read, entry_read, Parts, entries_of, content_of_parts, total, good_port, short_body, numbers_fit, entries_fit, parts_fit, wrote}
use Rattle.capture.proofs.Parts.{fit, fit-back, fields, entries-length}
use Rattle.capture.proofs.Theorem.{judged, content_of_lem, refused_else, row_of, entry_read_lem, length-file}
use Rattle.capture.specs.Claims.{fresh, read_pieces, parts_of}

-- what a reader keeps is the stage it was made of
kept : (s : Stage) → Small s → stage_of (reader_of s) ≡ s
kept (head at count) h = rw (lt-ltb at header_size h.at_small, le-leb count most_entries h.count_small)
kept (line left next sum at size) h =
    rw (lt-ltb left most_entries h.left-small, le-leb (next + most_body * left + most_body) most_file h.next_small, le-leb (sum + most_body * left + most_body) most_bodies h.sum-small, lt-ltb at line_size h.at_small, le-leb size most_body h.size_small)
kept (body left) h = rw (le-leb left most_bodies h)
kept refused h = refl

-- a file read whole: 0 where it is a capture file, 21 where it is none
pub read_whole : (file : List ℕ) → (read_on fresh file).number ≡ cond (judge file) 0 21
unfolding read_on judge
read_whole file = refl

small-start : Small start
small-start = record { at_small = omega arith; count_small = omega arith }

led : (before a : List ℕ) → read_on (read_on fresh before).reader a ≡ read_on fresh (before ++ a)
unfolding read_on
led before a =
    let s = run start before in
    ap (λ (t : Stage). record { number = number_at t; reader = reader_of t })
    (ap (λ (t : Stage). run t a) (kept s (run_small start before small-start)) ∙ sym (run-append start before a))

-- piece by piece is as at once, wherever the file is cut
pub read_pieces_lem : (pieces : List (List ℕ)) (before : List ℕ) → read_pieces (read_on fresh before) pieces ≡ read_on fresh (before ++ joined pieces)
read_pieces_lem [] before = ap (read_on fresh) (sym (append-nil before)) where
  append-nil : (l : List ℕ) → l ++ [] ≡ l
  append-nil [] = refl
  append-nil (b ∷ l) = ap (λ (m : List ℕ). b ∷ m) (append-nil l)
read_pieces_lem (a ∷ more) before =
    ap (λ (q : Reading). read_pieces q more) (led before a)
    ∙ read_pieces_lem more (before ++ a)
    ∙ ap (read_on fresh) (append_assoc before a (joined more))

-- ---- one content has one file
-- a file that is not refused was judged to be one
judge-true : (file : List ℕ) → (read_on fresh file).number ≡ 0 → judge file ≡ true
judge-true file e = accepted (judge file) refl where
  accepted : (t : Bool) → judge file ≡ t → judge file ≡ true
  accepted true q = q
  accepted false q = absurd (let z : ◌≡◌ {A = ℕ} 21 0 = sym (ap (λ (t : Bool). cond t 0 21) q) ∙ sym (read_whole file) ∙ e in omega arith)

-- a file that is not refused is the file of the content that is read from it, which is proper
pub read_is-file : (file : List ℕ) → Bytes file → (read_on fresh file).number ≡ 0 → Proper (content_of file) × (file ≡ file_of (content_of file))
read_is-file file b e = content_of_lem file b (judge-true file e)

-- the file of a proper content is read as that content
pub file-is-read : (c : Content) → Proper c → ((read_on fresh (file_of c)).number ≡ 0) × (content_of (file_of c) ≡ c)
file-is-read c h =
    let j = (judged (file_of c)).1 (c, h, refl) in
    (read_whole (file_of c) ∙ ap (λ (t : Bool). cond t 0 21) j.1, read_back c h)

-- every other file is refused with 21
pub else_21 : (file : List ℕ) → Bytes file → ((c : Content) → Proper c → file ≡ file_of c → ⊥) → (read_on fresh file).number ≡ 21
else_21 file b none = read_whole file ∙ ap (λ (t : Bool). cond t 0 21) (refused_else file b none)

-- two different files never give one content
pub one-content-one-file : (f g : List ℕ) → Bytes f → Bytes g → (read_on fresh f).number ≡ 0 → (read_on fresh g).number ≡ 0 → content_of f ≡ content_of g → f ≡ g
one-content-one-file f g bf bg ef eg q = (read_is-file f bf ef).1 ∙ ap file_of q ∙ sym (read_is-file g bg eg).1

-- and two different contents never have one file
pub one-file-one-content : (c d : Content) → Proper c → Proper d → file_of c ≡ file_of d → c ≡ d
one-file-one-content c d h k q = sym (read_back c h) ∙ ap content_of q ∙ read_back d k

back : (es : List Entry) → entries_of (map (λ e. e.port) es) (map (λ e. length e.body) es) (bodies es) ≡ es
back [] = refl
back (e ∷ es) =
    ap₂ (λ (b : List ℕ) (rest : List Entry). record { port = e.port; body = b } ∷ rest)
    (take-append_seam e.body (bodies es))
    (ap (entries_of (map (λ e. e.port) es) (map (λ e. length e.body) es)) (drop-append_seam e.body (bodies es)) ∙ back es)

-- the content of a content's parts is the content
pub parts-content : (c : Content) → content_of_parts (parts_of c) ≡ c
parts-content c = ap (λ (es : List Entry). record { l = c.l; d = c.d; p = c.p; base = c.base; n = c.n; k = c.k; entries = es }) (back c.entries)

same-lengths : (es : List Entry) → length (map (λ e. e.port) es) ≡ length (map (λ e. length e.body) es)
same-lengths [] = refl
same-lengths (e ∷ es) = ap suc (same-lengths es)

as_many : (es : List Entry) → length (map (λ e. e.port) es) ≡ length es
as_many [] = refl
as_many (e ∷ es) = ap suc (as_many es)

good-ports : (es : List Entry) → ProperEntries es → all good_port (map (λ e. e.port) es) ≡ true
good-ports [] h = refl
good-ports (e ∷ es) h = rw (le-leb 1 e.port h.0.from, le-leb e.port 3 h.0.to) (good-ports es h.1)

short-bodies : (es : List Entry) → ProperEntries es → all short_body (map (λ e. length e.body) es) ≡ true
short-bodies [] h = refl
short-bodies (e ∷ es) h = rw (le-leb (length e.body) most_body h.0.short) (short-bodies es h.1)

adds_up : (es : List Entry) → total (map (λ e. length e.body) es) ≡ length (bodies es)
adds_up [] = refl
adds_up (e ∷ es) = omega (arith, adds_up es, length-append e.body (bodies es))

-- the parts of a proper content are taken
pub proper_fits : (c : Content) → Proper c → parts_fit (parts_of c) ≡ true
proper_fits c h =
    let x = parts_of c in
    let e : entries_fit (parts_of c).ports (parts_of c).lengths (length (parts_of c).bodies) ≡ true =
    fit-back (parts_of c).ports (parts_of c).lengths (length (parts_of c).bodies) (record {
      same = same-lengths c.entries;
      few = omega (arith, as_many c.entries, h.few);
      ports-good = good-ports c.entries h.each;
      good_lengths = short-bodies c.entries h.each;
      adds_up = adds_up c.entries;
    }) in
    rw (e, lt-ltb c.l 256 h.l-fits, lt-ltb c.d 256 h.d-fits, lt-ltb c.p 65536 h.p-fits, lt-ltb c.base 65536 h.base-fits, lt-ltb c.n 65536 h.n-fits, lt-ltb c.k 65536 h.k-fits)

each_proper : (ports lengths bytes : List ℕ) → all good_port ports ≡ true → all short_body lengths ≡ true → Bytes bytes → ProperEntries (entries_of ports lengths bytes)
each_proper [] lengths bytes p s b = tt
each_proper (port ∷ ports) [] bytes p s b = tt
each_proper (port ∷ ports) (size ∷ lengths) bytes p s b =
    let hp = and_split (good_port port) (all good_port ports) p in
    let hq = and_split (leb 1 port) (leb port 3) hp.0 in
    let hs = and_split (short_body size) (all short_body lengths) s in (
      record {
        from = leb-true 1 port hq.0;
        to = leb-true port 3 hq.1;
        short = omega (arith, length-take size bytes, leb-true size most_body hs.0);
        bytes = bytes_take size bytes b;
      },
      each_proper ports lengths (drop size bytes) hp.1 hs.1 (bytes_drop size bytes b),
    )

-- parts that are taken are those of a proper content
pub fits_proper : (x : Parts) → Bytes x.bodies → parts_fit x ≡ true → Proper (content_of_parts x)
fits_proper x b e =
    let s = and_split (entries_fit x.ports x.lengths (length x.bodies)) (numbers_fit x.l x.d x.p x.base x.n x.k) e in
    let f = fit x.ports x.lengths (length x.bodies) s.0 in
    let g = fields x.l x.d x.p x.base x.n x.k s.1 in
    record {
      few = omega (arith, f.few, entries-length x.ports x.lengths x.bodies f.same);
      l-fits = g.l-fits;
      d-fits = g.d-fits;
      p-fits = g.p-fits;
      base-fits = g.base-fits;
      n-fits = g.n-fits;
      k-fits = g.k-fits;
      each = each_proper x.ports x.lengths x.bodies f.ports-good f.good_lengths b;
    }

-- what the writer writes, the reader reads as the content that was lent: the bytes counted are a file, and nothing else of the output moved
pub written-is-read : (x : Parts) (out : List ℕ) → Bytes x.bodies → (wrote x out).written.number ≡ 0
    → ((read_on fresh (take (wrote x out).written.count (wrote x out).out)).number ≡ 0)
    × (content_of (take (wrote x out).written.count (wrote x out).out) ≡ content_of_parts x)
unfolding wrote first
written-is-read x out b e = go (parts_fit x) (ltb (length out) (length (file_of (content_of_parts x)))) refl refl where
  go : (t s : Bool) → parts_fit x ≡ t → ltb (length out) (length (file_of (content_of_parts x))) ≡ s
      → ((read_on fresh (take (wrote x out).written.count (wrote x out).out)).number ≡ 0)
      × (content_of (take (wrote x out).written.count (wrote x out).out) ≡ content_of_parts x)
  go false s p q = absurd (let z : ◌≡◌ {A = ℕ} 21 0 = rw p at e in omega arith)
  go true true p q = absurd (let z : ◌≡◌ {A = ℕ} 4 0 = rw (p, q) at e in omega arith)
  go true false p q =
      let r = file-is-read (content_of_parts x) (fits_proper x b p) in
      rw (p, q, take-append_seam (file_of (content_of_parts x)) (drop (length (file_of (content_of_parts x))) out)) r

-- ---- header and entries of a file that was read
-- a header that is given has at most 512 entries
pub few-entries : (front : List ℕ) → (header_read front).count ≤ most_entries
unfolding header_read
few-entries front = go (ltb (length front) header_size || ltb most_entries (count_at front)) refl where
  go : (t : Bool) → (ltb (length front) header_size || ltb most_entries (count_at front)) ≡ t
      → (cond {A = Header} t no_header (record { number = 0; base = be16 (byte front 6) (byte front 7); count = count_at front; l = byte front 2; d = byte front 3; p = be16 (byte front 4) (byte front 5); n = be16 (byte front 8) (byte front 9); k = be16 (byte front 10) (byte front 11) })).count ≤ most_entries
  go true e = omega arith
  go false e = ltb-false most_entries (count_at front) (or_split (ltb (length front) header_size) (ltb most_entries (count_at front)) e).1

-- so many entries are read
many : (file : List ℕ) (i n : ℕ) → length (entries_from file i n) ≡ n
many file i zero = refl
many file i (suc n) = ap suc (many file (suc i) n)

-- the entries that a file holds are as many as its header says
pub count-is-read : (file : List ℕ) → length (content_of file).entries ≡ count_at file
unfolding content_of
count-is-read file = many file 0 (count_at file)

module _ (file : List ℕ) (b : Bytes file) (e : (read_on fresh file).number ≡ 0) where
  few : count_at file ≤ most_entries
  few = omega (arith, count-is-read file, (read_is-file file b e).0.few)

  reaches : table_end (count_at file) ≤ length file
  reaches = omega (arith, count-is-read file, ap length (read_is-file file b e).1, length-file (content_of file))

  -- the header gives the numbers of the content
  pub header-is-read : header_read file
      ≡ record { number = 0; base = (content_of file).base; count = length (content_of file).entries; l = (content_of file).l; d = (content_of file).d; p = (content_of file).p; n = (content_of file).n; k = (content_of file).k }
  unfolding header_read content_of
  header-is-read =
      rw (le-ltb (length file) header_size (omega (arith, reaches)), le-ltb most_entries (count_at file) few, many file 0 (count_at file))

  -- an entry gives its port, and where its body stands in the file
  pub entry_is-read : (i : ℕ) (other : Entry) → i < length (content_of file).entries
      → ((entry_read file i).number ≡ 0)
      × (get_or (content_of file).entries i other ≡ record { port = (entry_read file i).port; body = take (entry_read file i).length (drop (entry_read file i).start file) })
      × ((entry_read file i).start + (entry_read file i).length ≤ length file)
  unfolding entry_read
  entry_is-read i other h =
      let below : i < count_at file = omega (arith, count-is-read file) in
      let c : (header_read file).count ≡ count_at file = ap (λ (x : Header). x.count) header-is-read ∙ count-is-read file in
      let row = row_of file b (judge-true file e) i below in
      rw (c, lt-ltb i (count_at file) below, le-leb (table_end (i + 1)) (length file) (omega (arith, reaches)))
      (refl, entry_read_lem file i other below, omega (arith, row.start, row.fits))

-- the front of a file says as much as the file: its first 12 bytes the header, and as far as line i entry i
module _ (file : List ℕ) (n : ℕ) (h : n ≤ length file) where
  first-bytes : (i : ℕ) → i < n → byte (take n file) i ≡ byte file i
  first-bytes i k = get_or-take n file i 0 k

  pub front-header : header_size ≤ n → header_read (take n file) ≡ header_read file
  unfolding header_read
  front-header k =
      let m : length (take n file) ≡ n = length-take-le n file h in
      rw (m, le-ltb n header_size k, le-ltb (length file) header_size (omega arith), first-bytes 0 (omega arith), first-bytes 1 (omega arith), first-bytes 2 (omega arith), first-bytes 3 (omega arith), first-bytes 4 (omega arith), first-bytes 5 (omega arith), first-bytes 6 (omega arith), first-bytes 7 (omega arith), first-bytes 8 (omega arith), first-bytes 9 (omega arith), first-bytes 10 (omega arith), first-bytes 11 (omega arith))

  pub front_entry : (i : ℕ) → table_end (i + 1) ≤ n → entry_read (take n file) i ≡ entry_read file i
  unfolding entry_read
  front_entry i k =
      let m : length (take n file) ≡ n = length-take-le n file h in
      let t = table_end i in
      rw (front-header (omega arith), m, le-leb (table_end (i + 1)) n k, le-leb (table_end (i + 1)) (length file) (omega arith), first-bytes (table_end i) (omega arith), first-bytes (table_end i + 2) (omega arith), first-bytes (table_end i + 3) (omega arith), first-bytes (table_end i + 4) (omega arith), first-bytes (table_end i + 5) (omega arith), first-bytes (table_end i + 6) (omega arith), first-bytes (table_end i + 7) (omega arith))
