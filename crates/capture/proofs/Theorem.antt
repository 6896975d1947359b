-- The theorems on capture files.
use Rattle.std.specs.Prelude.{◌≡◌, refl, Bool, true, false, ◌↔◌, List, [], ◌∷◌, ◌++◌, ℕ, ◌+◌, ◌<◌, length, get_or}
use Rattle.std.proofs.Common.{sym, ap, subst, ◌∙◌, arith, length-append}
use Rattle.rtp.specs.Bytes.{bytes16, bytes32}
use Rattle.capture.specs.Bytes.{Bytes}
use Rattle.capture.proofs.Bytes.{bytes-append, bytes_16, bytes_32}
use Rattle.capture.specs.Content.{Entry, Content, line_of, table, bodies, header, table_end, file_of, ProperEntries, Proper}
use Rattle.capture.specs.Stage.{judge}
use Rattle.capture.proofs.Accepts.{accepted}
use Rattle.capture.proofs.Refuses.{found}
use Rattle.capture.specs.Reads.{count_at, entry_at, content_of, Row}
use Rattle.capture.proofs.ReadsLaws.{read_back, rows_of, entry_of, length-table}

-- ---- a proper content's file is bytes
bytes-table : (start : ℕ) (es : List Entry) → ProperEntries es → Bytes (table start es)
bytes-table start [] h = tt
bytes-table start (e ∷ es) h =
    bytes-append (line_of e.port (length e.body) start) (table (start + length e.body) es)
    (omega (arith, h.0.to), (omega arith, bytes-append (bytes16 (length e.body)) (bytes32 start) (bytes_16 (length e.body)) (bytes_32 start)))
    (bytes-table (start + length e.body) es h.1)

bytes-bodies : (es : List Entry) → ProperEntries es → Bytes (bodies es)
bytes-bodies [] h = tt
bytes-bodies (e ∷ es) h = bytes-append e.body (bodies es) h.0.bytes (bytes-bodies es h.1)

pub bytes-file : (c : Content) → Proper c → Bytes (file_of c)
unfolding file_of
bytes-file c h =
    let es = c.entries in
    let count = length c.entries in
    bytes-append (header count c.l c.d c.p c.base c.n c.k) (table (table_end count) es ++ bodies es)
    (bytes-append (bytes16 count) ((c.l ∷ c.d ∷ []) ++ (bytes16 c.p ++ (bytes16 c.base ++ (bytes16 c.n ++ bytes16 c.k)))) (bytes_16 count) (
      h.l-fits,
      (
        h.d-fits,
        bytes-append (bytes16 c.p) (bytes16 c.base ++ (bytes16 c.n ++ bytes16 c.k)) (bytes_16 c.p)
            (bytes-append (bytes16 c.base) (bytes16 c.n ++ bytes16 c.k) (bytes_16 c.base)
            (bytes-append (bytes16 c.n) (bytes16 c.k) (bytes_16 c.n) (bytes_16 c.k))),
      ),
    ))
    (bytes-append (table (table_end count) es) (bodies es) (bytes-table (table_end count) es h.each) (bytes-bodies es h.each))

-- ---- the files that are accepted are the proper contents' files
pub judged : (file : List ℕ) → (Bytes file × (judge file ≡ true)) ↔ ((c : Content) × Proper c × (file ≡ file_of c))
judged file = (
  (λ h. found file h.0 h.1),
  (λ h. (subst Bytes (sym h.2) (bytes-file h.0 h.1), ap judge h.2 ∙ accepted h.0 h.1)),
)

-- an accepted file is the file of the content that is read from it, which is proper
pub content_of_lem : (file : List ℕ) → Bytes file → judge file ≡ true → Proper (content_of file) × (file ≡ file_of (content_of file))
content_of_lem file b e =
    let f = found file b e in
    let q : f.0 ≡ content_of file = sym (ap content_of f.2 ∙ read_back f.0 f.1) in
    (subst Proper q f.1, f.2 ∙ ap file_of q)

-- any other file is refused
pub refused_else : (file : List ℕ) → Bytes file → ((c : Content) → Proper c → file ≡ file_of c → ⊥) → judge file ≡ false
refused_else file b none_is = go (judge file) refl where
  go : (t : Bool) → judge file ≡ t → t ≡ false
  go false e = refl
  go true e = absurd (let f = found file b e in none_is f.0 f.1 f.2)

-- ---- the lines of an accepted file, as its table has them
pub row_of : (file : List ℕ) → Bytes file → judge file ≡ true → (i : ℕ) → i < count_at file → Row file i
row_of file b e i h =
    let f = found file b e in
    subst (λ (g : List ℕ). Row g i) (sym f.2) (rows_of f.0 f.1 i (subst (λ (g : List ℕ). i < count_at g) f.2 h))

-- entry i, by its line
pub entry_read_lem : (file : List ℕ) (i : ℕ) (other : Entry) → i < count_at file → get_or (content_of file).entries i other ≡ entry_at file i
unfolding content_of
entry_read_lem file i other h = entry_of file (count_at file) 0 i other h ∙ ap (entry_at file) (omega arith)

-- the writer's room
pub length-file : (c : Content) → length (file_of c) ≡ table_end (length c.entries) + length (bodies c.entries)
unfolding file_of
length-file c =
    let count = length c.entries in
    omega (arith, length-append (table (table_end count) c.entries) (bodies c.entries), length-table (table_end count) c.entries)
