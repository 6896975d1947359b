-- A proper content's file is accepted.
use Rattle.std.specs.Prelude.{◌≡◌, refl, Bool, true, cond, ◌&&◌, List, [], ◌∷◌, ◌++◌, ℕ, suc, ◌+◌, ◌*◌, ◌/◌, ◌%◌, ◌≤◌, eqb, length}
use Rattle.std.proofs.Common.{ap, ap₂, ◌∙◌, append_assoc, arith, lt-ltb, le-leb, eq-eqb, length-append}
use Rattle.capture.specs.Content.{Entry, Content, line_of, table, bodies, header, table_end, file_of, ProperEntries, Proper}
use Rattle.capture.specs.Stage.{Stage, enter, head, line, body, refused, good_byte, size_after, count_after, lined, headed, feed, run, whole, start, judge}
use Rattle.capture.proofs.StageLaws.{run-append, run-body}

eqb_same : (a : ℕ) → eqb a a ≡ true
eqb_same a = eq-eqb a a refl

-- one byte more
fed_line : {r : Stage} (left next sum at size b : ℕ) → r ≡ line left next sum at size → good_byte next at size b ≡ true
    → feed b r ≡ lined left next sum (at + 1) (size_after at size b)
fed_line left next sum at size b q e = ap (feed b) q ∙ ap (λ (t : Bool). cond t (lined left next sum (at + 1) (size_after at size b)) refused) e

fed_head : {r : Stage} (at count b : ℕ) → r ≡ head at count → count_after at count b ≤ 512
    → feed b r ≡ headed (at + 1) (count_after at count b)
fed_head at count b q h = ap (feed b) q ∙ ap (λ (t : Bool). cond t (headed (at + 1) (count_after at count b)) refused) (le-leb (count_after at count b) 512 h)

-- a line is read
module _ (left next sum port size : ℕ) (from : 1 ≤ port) (to : port ≤ 3) (short : size ≤ 1500) where
  line_read : run (enter (suc left) next sum) (line_of port size next) ≡ enter left (next + size) (sum + size)
  line_read =
      let z = (0 * 256 + size / 256 % 256) * 256 + size % 256 in
      let e : (0 * 256 + size / 256 % 256) * 256 + size % 256 ≡ size = omega arith in
      let f0 = fed_line left next sum 0 0 port refl (ap₂ ◌&&◌ (lt-ltb 0 port (omega arith)) (lt-ltb port 4 (omega arith))) in
      let f1 = fed_line left next sum 1 0 0 f0 refl in
      let f2 = fed_line left next sum 2 0 (size / 256 % 256) f1 (le-leb (0 * 256 + size / 256 % 256) 1500 (omega arith)) in
      let f3 = fed_line left next sum 3 (0 * 256 + size / 256 % 256) (size % 256) f2 (le-leb z 1500 (omega arith)) in
      let f4 = fed_line left next sum 4 z (next / 16777216 % 256) f3 (eqb_same (next / 16777216 % 256)) in
      let f5 = fed_line left next sum 5 z (next / 65536 % 256) f4 (eqb_same (next / 65536 % 256)) in
      let f6 = fed_line left next sum 6 z (next / 256 % 256) f5 (eqb_same (next / 256 % 256)) in
      fed_line left next sum 7 z (next % 256) f6 (eqb_same (next % 256))
      ∙ ap (λ (z : ℕ). enter left (next + z) (sum + z)) e

header_read_lem : (count l d p base n k : ℕ) → count ≤ 512 → run start (header count l d p base n k) ≡ enter count (table_end count) 0
header_read_lem count l d p base n k h =
    let z = (0 * 256 + count / 256 % 256) * 256 + count % 256 in
    let e : (0 * 256 + count / 256 % 256) * 256 + count % 256 ≡ count = omega arith in
    let f0 = fed_head 0 0 (count / 256 % 256) refl (omega arith) in
    let f1 = fed_head 1 (0 * 256 + count / 256 % 256) (count % 256) f0 (omega arith) ∙ ap (head 2) e in
    let f2 = fed_head 2 count l f1 h in
    let f3 = fed_head 3 count d f2 h in
    let f4 = fed_head 4 count (p / 256 % 256) f3 h in
    let f5 = fed_head 5 count (p % 256) f4 h in
    let f6 = fed_head 6 count (base / 256 % 256) f5 h in
    let f7 = fed_head 7 count (base % 256) f6 h in
    let f8 = fed_head 8 count (n / 256 % 256) f7 h in
    let f9 = fed_head 9 count (n % 256) f8 h in
    let f10 = fed_head 10 count (k / 256 % 256) f9 h in
    fed_head 11 count (k % 256) f10 h

table-read : (es : List Entry) (next sum : ℕ) (rest : List ℕ) → ProperEntries es
    → run (enter (length es) next sum) (table next es ++ rest) ≡ run (body (sum + length (bodies es))) rest
table-read [] next sum rest h = ap (λ (n : ℕ). run (body n) rest) (omega arith)
table-read (e ∷ es) next sum rest h =
    let size = length e.body in
    let row = line_of e.port size next in
    let r = enter (suc (length es)) next sum in
    ap (run r) (append_assoc row (table (next + size) es) rest)
    ∙ run-append r row (table (next + size) es ++ rest)
    ∙ ap (λ (q : Stage). run q (table (next + size) es ++ rest)) (line_read (length es) next sum e.port size h.0.from h.0.to h.0.short)
    ∙ table-read es (next + size) (sum + size) rest h.1
    ∙ ap (λ (n : ℕ). run (body n) rest) (omega (arith, length-append e.body (bodies es)))

-- (a) a proper content's file is accepted
pub accepted : (c : Content) → Proper c → judge (file_of c) ≡ true
unfolding judge file_of
accepted c h =
    let es = c.entries in
    let count = length c.entries in
    ap whole
    (run-append start (header count c.l c.d c.p c.base c.n c.k) (table (table_end count) es ++ bodies es)
    ∙ ap (λ (q : Stage). run q (table (table_end count) es ++ bodies es)) (header_read_lem count c.l c.d c.p c.base c.n c.k h.few)
    ∙ table-read es (table_end count) 0 (bodies es) h.each
    ∙ ap (λ (n : ℕ). run (body n) (bodies es)) (omega arith)
    ∙ run-body (bodies es) 0)
