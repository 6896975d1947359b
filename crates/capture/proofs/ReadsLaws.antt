-- What is read back from a file, by position.
use Rattle.std.specs.Prelude.{◌≡◌, refl, List, [], ◌∷◌, ◌++◌, ℕ, zero, suc, ◌+◌, ◌*◌, ◌/◌, ◌%◌, ◌≤◌, ◌<◌, length, get_or, take, drop}
use Rattle.std.proofs.Common.{sym, ap, ap₂, subst, ◌∙◌, append_assoc, ⊎_elim, eq-or-lt_of_le, arith, length-append, get_or-append-add, take_at, drop_at}
use Rattle.rtp.specs.Bytes.{byte, be16, be32}
use Rattle.capture.proofs.Bytes.{be16-bytes16, be32-bytes32}
use Rattle.capture.specs.Content.{Entry, Content, line_of, table, bodies, header, table_end, file_of, Proper}
use Rattle.capture.specs.Reads.{count_at, port_at, size_at, start_at, body_at, entry_at, entries_from, content_of, Standing, Line, place_of, Row}

-- ---- one line
module _ (file before after : List ℕ) (i port size start : ℕ)
    (is : file ≡ before ++ (line_of port size start ++ after)) (place : length before ≡ table_end i) where
  line-byte : (j m : ℕ) → m ≡ length before + j → byte file m ≡ byte (line_of port size start ++ after) j
  line-byte j m e = ap₂ byte is e ∙ get_or-append-add before (line_of port size start ++ after) j 0

  port-read : port_at file i ≡ port
  port-read = line-byte 0 (table_end i) (omega arith)

  size-read : size < 65536 → size_at file i ≡ size
  size-read h = ap₂ be16 (line-byte 2 (table_end i + 2) (omega arith)) (line-byte 3 (table_end i + 3) (omega arith)) ∙ be16-bytes16 size h

  start-read : start < 4294967296 → start_at file i ≡ start
  start-read h =
      ap₂ (λ (a b : ℕ). be32 a b (byte file (table_end i + 6)) (byte file (table_end i + 7))) (line-byte 4 (table_end i + 4) (omega arith)) (line-byte 5 (table_end i + 5) (omega arith))
      ∙ ap₂ (λ (a b : ℕ). be32 (start / 16777216 % 256) (start / 65536 % 256) a b) (line-byte 6 (table_end i + 6) (omega arith)) (line-byte 7 (table_end i + 7) (omega arith))
      ∙ be32-bytes32 start h

pub length-table : (start : ℕ) (es : List Entry) → length (table start es) ≡ 8 * length es
length-table start [] = refl
length-table start (e ∷ es) = omega (arith, length-table (start + length e.body) es)

entry_same : (port port' : ℕ) (body body' : List ℕ) → port ≡ port' → body ≡ body' → ◌≡◌ {A = Entry} (record { port = port; body = body }) (record { port = port'; body = body' })
entry_same port port' body body' p b = λ j. record { port = p j; body = b j }

module _ (file : List ℕ) (e : Entry) (es : List Entry) (i start : ℕ) (s : Standing file (e ∷ es) i start) where
  first-line : Line file e i start
  first-line =
      let A = s.before in
      let row = line_of e.port (length e.body) start in
      let more = table (start + length e.body) es in
      let M = s.between in
      let short : length e.body ≤ 1500 = s.each.0.short in
      let place : length s.before ≡ table_end i = s.place in
      let begins : start ≡ length s.before + 8 * suc (length es) + length s.between = s.begins in
      let small : start + 1500 * suc (length es) < 4294967296 = s.small in
      let after = more ++ (M ++ (e.body ++ bodies es)) in
      let is₁ : file ≡ A ++ (row ++ after) = s.is ∙ simp append_assoc in
      let is₂ : file ≡ (A ++ (row ++ (more ++ M))) ++ (e.body ++ bodies es) = s.is ∙ simp append_assoc in
      let prior : length (A ++ (row ++ (more ++ M))) ≡ start = simp length-append (omega (arith, length-table (start + length e.body) es)) in
      record {
        port-is = port-read file A after i e.port (length e.body) start is₁ place;
        size_is = size-read file A after i e.port (length e.body) start is₁ place (omega arith);
        start_is = start-read file A after i e.port (length e.body) start is₁ place (omega arith);
        body_is =
            ap (λ (f : List ℕ). take (length e.body) (drop start f)) is₂
            ∙ ap (take (length e.body)) (drop_at (A ++ (row ++ (more ++ M))) (e.body ++ bodies es) start prior)
            ∙ take_at e.body (bodies es) (length e.body) refl;
        fits = omega (arith, prior, ap length is₂, length-append (A ++ (row ++ (more ++ M))) (e.body ++ bodies es), length-append e.body (bodies es));
      }

  next-line : Standing file es (suc i) (start + length e.body)
  next-line =
      let A = s.before in
      let M = s.between in
      let row = line_of e.port (length e.body) start in
      let more = table (start + length e.body) es in
      let short : length e.body ≤ 1500 = s.each.0.short in
      let place : length s.before ≡ table_end i = s.place in
      let begins : start ≡ length s.before + 8 * suc (length es) + length s.between = s.begins in
      let small : start + 1500 * suc (length es) < 4294967296 = s.small in
      record {
        before = A ++ row;
        between = M ++ e.body;
        each = s.each.1;
        is = s.is ∙ simp append_assoc;
        place = simp length-append (omega arith);
        begins = simp length-append (omega arith);
        small = omega arith;
      }

entries-read : (file : List ℕ) (es : List Entry) (i start : ℕ) → Standing file es i start → entries_from file i (length es) ≡ es
entries-read file [] i start s = refl
entries-read file (e ∷ es) i start s =
    let h = first-line file e es i start s in
    ap₂ ◌∷◌
    (entry_same (port_at file i) e.port (body_at file i) e.body
    h.port-is
    (ap₂ (λ (n m : ℕ). take n (drop m file)) h.size_is h.start_is ∙ h.body_is))
    (entries-read file es (suc i) (start + length e.body) (next-line file e es i start s))

rows : (file : List ℕ) (es : List Entry) (i start : ℕ) → Standing file es i start → start ≡ place_of file i
    → (j : ℕ) → i ≤ j → j < i + length es → Row file j
rows file [] i start s e j h k = absurd (omega arith)
rows file (x ∷ es) i start s e j h k =
    ⊎_elim
    (λ (q : i ≡ j). subst (Row file) q row)
    (λ (l : i < j). rows file es (suc i) (start + length x.body) (next-line file x es i start s) (ap₂ ◌+◌ e (sym f.size_is)) j l (omega arith))
    (eq-or-lt_of_le h)
  where
    f : Line file x i start
    f = first-line file x es i start s

    row : Row file i
    row = record {
      from = omega (arith, f.port-is, s.each.0.from);
      to = omega (arith, f.port-is, s.each.0.to);
      short = omega (arith, f.size_is, s.each.0.short);
      start = f.start_is ∙ e;
      fits = omega (arith, f.size_is, f.fits);
    }

-- a proper content's file, at its first line
standing : (c : Content) → Proper c → Standing (file_of c) c.entries 0 (table_end (length c.entries))
unfolding file_of
standing c h = record {
  before = header (length c.entries) c.l c.d c.p c.base c.n c.k;
  between = [];
  each = h.each;
  is = refl;
  place = refl;
  begins = omega arith;
  small = omega (arith, h.few);
}

count-read : (c : Content) → Proper c → count_at (file_of c) ≡ length c.entries
unfolding file_of
count-read c h = be16-bytes16 (length c.entries) (omega (arith, h.few))

-- what is read back from a proper content's file is the content
pub read_back : (c : Content) → Proper c → content_of (file_of c) ≡ c
unfolding content_of file_of
read_back c h =
    let entries : entries_from (file_of c) 0 (count_at (file_of c)) ≡ c.entries =
    ap (entries_from (file_of c) 0) (count-read c h) ∙ entries-read (file_of c) c.entries 0 (table_end (length c.entries)) (standing c h) in
    λ j. record {
      l = c.l;
      d = c.d;
      p = be16-bytes16 c.p h.p-fits j;
      base = be16-bytes16 c.base h.base-fits j;
      n = be16-bytes16 c.n h.n-fits j;
      k = be16-bytes16 c.k h.k-fits j;
      entries = entries j;
    }

-- each line of a proper content's file
pub rows_of : (c : Content) → Proper c → (i : ℕ) → i < count_at (file_of c) → Row (file_of c) i
rows_of c h i k = rows (file_of c) c.entries 0 (table_end (length c.entries)) (standing c h) (ap table_end (sym (count-read c h))) i (omega arith) (omega (arith, count-read c h))

-- entry i of those read is the entry at line i
pub entry_of : (file : List ℕ) (n i j : ℕ) (other : Entry) → j < n → get_or (entries_from file i n) j other ≡ entry_at file (i + j)
entry_of file zero i j other h = absurd (omega arith)
entry_of file (suc n) i zero other h = ap (entry_at file) (omega arith)
entry_of file (suc n) i (suc j) other h = entry_of file n (suc i) j other (omega arith) ∙ ap (entry_at file) (omega arith)
