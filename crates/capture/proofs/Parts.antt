-- The file of lent parts, and the parts of a content.
use Rattle.std.specs.Prelude.{◌≡◌, refl, true, ◌&&◌, List, [], ◌∷◌, ◌++◌, ℕ, suc, ◌+◌, ◌*◌, ◌≤◌, eqb, ltb, leb, length, take, drop}
use Rattle.std.proofs.Common.{ap, ap₂, ◌∙◌, arith, ltb-true, le-leb, leb-true, eq-eqb, eqb-true, length-append, length-drop, take-append-drop, length-take-le}
use Rattle.sequence.specs.Lists.{all}
use Rattle.sequence.proofs.Lists.{and_split}
use Rattle.capture.specs.Content.{most_entries, most_body, header, line_of, table, bodies, table_end, file_of}
use Rattle.capture.specs.Calls.{Parts, entries_of, content_of_parts, total, good_port, short_body, numbers_fit, entries_fit, lines}
use Rattle.capture.specs.Parts.{Fit, Fields, front_of}

-- ---- the entries of lent lists
pub entries-length : (ports lengths bytes : List ℕ) → length ports ≡ length lengths → length (entries_of ports lengths bytes) ≡ length ports
entries-length [] lengths bytes e = refl
entries-length (p ∷ ports) [] bytes e = absurd (omega arith)
entries-length (p ∷ ports) (s ∷ lengths) bytes e = ap suc (entries-length ports lengths (drop s bytes) (omega arith))

-- their bodies are what is lent
pub entries-bodies : (ports lengths bytes : List ℕ) → length ports ≡ length lengths → total lengths ≡ length bytes → bodies (entries_of ports lengths bytes) ≡ bytes
entries-bodies [] [] [] e t = refl
entries-bodies [] [] (b ∷ bytes) e t = absurd (omega arith)
entries-bodies [] (s ∷ lengths) bytes e t = absurd (omega arith)
entries-bodies (p ∷ ports) [] bytes e t = absurd (omega arith)
entries-bodies (p ∷ ports) (s ∷ lengths) bytes e t =
    ap (λ (m : List ℕ). take s bytes ++ m) (entries-bodies ports lengths (drop s bytes) (omega arith) (omega (arith, length-drop s bytes)))
    ∙ take-append-drop s bytes

-- their table goes by the lengths
pub entries-table : (ports lengths bytes : List ℕ) (start : ℕ) → total lengths ≤ length bytes → table start (entries_of ports lengths bytes) ≡ lines start ports lengths
entries-table [] lengths bytes start t = refl
entries-table (p ∷ ports) [] bytes start t = refl
entries-table (p ∷ ports) (s ∷ lengths) bytes start t =
    let sized : length (take s bytes) ≡ s = length-take-le s bytes (omega arith) in
    ap (λ (n : ℕ). line_of p n start ++ table (start + n) (entries_of ports lengths (drop s bytes))) sized
    ∙ ap (λ (m : List ℕ). line_of p s start ++ m) (entries-table ports lengths (drop s bytes) (start + s) (omega (arith, length-drop s bytes)))

pub length-lines : (start : ℕ) (ports lengths : List ℕ) → length ports ≡ length lengths → length (lines start ports lengths) ≡ 8 * length ports
length-lines start [] lengths e = refl
length-lines start (p ∷ ports) [] e = absurd (omega arith)
length-lines start (p ∷ ports) (s ∷ lengths) e = omega (arith, length-lines (start + s) ports lengths (omega arith))

pub fit : (ports lengths : List ℕ) (bytes : ℕ) → entries_fit ports lengths bytes ≡ true → Fit ports lengths bytes
fit ports lengths bytes e =
    let a = eqb (length ports) (length lengths) in
    let b = leb (length ports) most_entries in
    let c = all good_port ports in
    let d = all short_body lengths in
    let s0 = and_split (a && b && c && d) (eqb (total lengths) bytes) e in
    let s1 = and_split (a && b && c) d s0.0 in
    let s2 = and_split (a && b) c s1.0 in
    let s3 = and_split a b s2.0 in
    record {
      same = eqb-true (length ports) (length lengths) s3.0;
      few = leb-true (length ports) most_entries s3.1;
      ports-good = s2.1;
      good_lengths = s1.1;
      adds_up = eqb-true (total lengths) bytes s0.1;
    }

pub fit-back : (ports lengths : List ℕ) (bytes : ℕ) → Fit ports lengths bytes → entries_fit ports lengths bytes ≡ true
fit-back ports lengths bytes f =
    rw (eq-eqb (length ports) (length lengths) f.same, le-leb (length ports) most_entries f.few, f.ports-good, f.good_lengths) (eq-eqb (total lengths) bytes f.adds_up)

pub fields : (l d p base n k : ℕ) → numbers_fit l d p base n k ≡ true → Fields l d p base n k
fields l d p base n k e =
    let a = ltb l 256 in
    let b = ltb d 256 in
    let c = ltb p 65536 in
    let f = ltb base 65536 in
    let g = ltb n 65536 in
    let s0 = and_split (a && b && c && f && g) (ltb k 65536) e in
    let s1 = and_split (a && b && c && f) g s0.0 in
    let s2 = and_split (a && b && c) f s1.0 in
    let s3 = and_split (a && b) c s2.0 in
    let s4 = and_split a b s3.0 in
    record {
      l-fits = ltb-true l 256 s4.0;
      d-fits = ltb-true d 256 s4.1;
      p-fits = ltb-true p 65536 s3.1;
      base-fits = ltb-true base 65536 s2.1;
      n-fits = ltb-true n 65536 s1.1;
      k-fits = ltb-true k 65536 s0.1;
    }

-- short bodies are not many bytes
pub total-small : (lengths : List ℕ) → all short_body lengths ≡ true → total lengths ≤ most_body * length lengths
total-small [] e = omega arith
total-small (s ∷ lengths) e =
    let h = and_split (short_body s) (all short_body lengths) e in
    omega (arith, leb-true s most_body h.0, total-small lengths h.1)

pub length_front : (x : Parts) → length x.ports ≡ length x.lengths → length (front_of x) ≡ table_end (length x.ports)
length_front x e = omega (arith, length-lines (table_end (length x.ports)) x.ports x.lengths e)

-- the file of lent parts
pub file_of-parts : (x : Parts) → Fit x.ports x.lengths (length x.bodies) → file_of (content_of_parts x) ≡ front_of x ++ x.bodies
unfolding file_of
file_of-parts x f =
    let es = entries_of x.ports x.lengths x.bodies in
    let many : length (entries_of x.ports x.lengths x.bodies) ≡ length x.ports = entries-length x.ports x.lengths x.bodies f.same in
    ap (λ (c : ℕ). header c x.l x.d x.p x.base x.n x.k ++ table (table_end c) es ++ bodies es) many
    ∙ ap₂ (λ (t b : List ℕ). header (length x.ports) x.l x.d x.p x.base x.n x.k ++ t ++ b)
    (entries-table x.ports x.lengths x.bodies (table_end (length x.ports)) (omega (arith, f.adds_up)))
    (entries-bodies x.ports x.lengths x.bodies f.same f.adds_up)

pub length_of_parts : (x : Parts) → Fit x.ports x.lengths (length x.bodies) → length (file_of (content_of_parts x)) ≡ table_end (length x.ports) + length x.bodies
length_of_parts x f = ap length (file_of-parts x f) ∙ length-append (front_of x) x.bodies ∙ ap (λ (n : ℕ). n + length x.bodies) (length_front x f.same)
