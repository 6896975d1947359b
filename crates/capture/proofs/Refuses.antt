-- What is accepted is a proper content's file.
use Rattle.std.specs.Prelude.{◌≡◌, refl, Bool, true, false, cond, ◌&&◌, List, [], ◌∷◌, ◌++◌, ℕ, zero, suc, ◌+◌, ◌*◌, ◌/◌, ◌%◌, ◌≤◌, ◌<◌, ltb, leb, length, take, drop}
use Rattle.std.proofs.Common.{sym, ap, ap₂, ◌∙◌, append_assoc, arith, ltb-true, leb-true, eqb-true, length-take, length-drop, take-append-drop, drop_of_length-le, drop-drop}
use Rattle.rtp.specs.Bytes.{be16, bytes16}
use Rattle.capture.specs.Bytes.{Bytes}
use Rattle.capture.proofs.Bytes.{bytes_take, bytes_drop, high, low}
use Rattle.capture.specs.Content.{Entry, Content, line_of, table, bodies, header, table_end, file_of, Proper}
use Rattle.capture.specs.Stage.{Stage, enter, head, line, body, refused, good_byte, size_after, count_after, lined, headed, feed, run, whole, start, judge}
use Rattle.capture.proofs.StageLaws.{run-refused}
use Rattle.capture.specs.Refuses.{Going, Fed, Lined, Counted, Headed, Tabled}

and_both : (a b : Bool) → (a && b) ≡ true → (a ≡ true) × (b ≡ true)
and_both true b e = (refl, e)
and_both false b e = absurd (let z : ◌≡◌ {A = ℕ} 0 1 = cc in omega arith)

never : false ≡ true → ⊥
never e = let z : ◌≡◌ {A = ℕ} 0 1 = cc in omega arith

module _ (r : Stage) (test : ℕ → Bool) (next : ℕ → Stage) (open' : whole r ≡ false) (fed : (b : ℕ) → feed b r ≡ cond (test b) (next b) refused) where
  one : (g : Going r) → Fed test next g.file
  one g = go g.file g.bytes g.on where
    at_byte : (b : ℕ) (rest : List ℕ) → Bytes (b ∷ rest) → whole (run r (b ∷ rest)) ≡ true → (t : Bool) → test b ≡ t → Fed test next (b ∷ rest)
    at_byte b rest h e true q =
        let on : whole (run (next b) rest) ≡ true = sym (ap (λ (x : Stage). whole (run x rest)) (fed b ∙ ap (λ (t : Bool). cond t (next b) refused) q)) ∙ e in
        record { b = b; then = record { file = rest; bytes = h.1; on = on }; is = refl; small = h.0; good = q }
    at_byte b rest h e false q =
        absurd (never (sym (ap (λ (x : Stage). whole (run x rest)) (fed b ∙ ap (λ (t : Bool). cond t (next b) refused) q) ∙ ap whole (run-refused rest)) ∙ e))

    go : (file : List ℕ) → Bytes file → whole (run r file) ≡ true → Fed test next file
    go [] h e = absurd (never (sym open' ∙ e))
    go (b ∷ rest) h e = at_byte b rest h e (test b) refl

one_line : (left next sum at size : ℕ) (g : Going (line left next sum at size))
    → Fed (good_byte next at size) (λ b. lined left next sum (at + 1) (size_after at size b)) g.file
one_line left next sum at size = one (line left next sum at size) (good_byte next at size) (λ b. lined left next sum (at + 1) (size_after at size b)) refl (λ b. refl)

one_head : (at count : ℕ) (g : Going (head at count))
    → Fed (λ b. leb (count_after at count b) 512) (λ b. headed (at + 1) (count_after at count b)) g.file
one_head at count = one (head at count) (λ b. leb (count_after at count b) 512) (λ b. headed (at + 1) (count_after at count b)) refl (λ b. refl)

-- the two bytes of a number as it is gathered
hi : (a b : ℕ) → a < 256 → b < 256 → a ≡ ((0 * 256 + a) * 256 + b) / 256 % 256
hi a b h k = omega arith

lo : (a b : ℕ) → b < 256 → b ≡ ((0 * 256 + a) * 256 + b) % 256
lo a b k = omega arith

lined-back : (left next sum : ℕ) (g : Going (line left next sum 0 0)) → Lined left next sum g.file
lined-back left next sum g =
    let s0 = one_line left next sum 0 0 g in
    let s1 = one_line left next sum 1 0 s0.then in
    let s2 = one_line left next sum 2 0 s1.then in
    let s3 = one_line left next sum 3 (0 * 256 + s2.b) s2.then in
    let z : ℕ = (0 * 256 + s2.b) * 256 + s3.b in
    let s4 = one_line left next sum 4 z s3.then in
    let s5 = one_line left next sum 5 z s4.then in
    let s6 = one_line left next sum 6 z s5.then in
    let s7 = one_line left next sum 7 z s6.then in
    let both = and_both (ltb 0 s0.b) (ltb s0.b 4) s0.good in
    record {
      port = s0.b;
      size = z;
      then = s7.then;
      is = s0.is ∙ ap (λ (m : List ℕ). s0.b ∷ m) (s1.is
          ∙ ap₂ ◌∷◌ (eqb-true s1.b 0 s1.good) (s2.is
          ∙ ap₂ ◌∷◌ (hi s2.b s3.b s2.small s3.small) (s3.is
          ∙ ap₂ ◌∷◌ (lo s2.b s3.b s3.small) (s4.is
          ∙ ap₂ ◌∷◌ (eqb-true s4.b (next / 16777216 % 256) s4.good) (s5.is
          ∙ ap₂ ◌∷◌ (eqb-true s5.b (next / 65536 % 256) s5.good) (s6.is
          ∙ ap₂ ◌∷◌ (eqb-true s6.b (next / 256 % 256) s6.good) (s7.is
          ∙ ap (λ (x : ℕ). x ∷ s7.then.file) (eqb-true s7.b (next % 256) s7.good))))))));
      from = ltb-true 0 s0.b both.0;
      to = omega (arith, ltb-true s0.b 4 both.1);
      short = leb-true z 1500 s3.good;
    }

counted_back : (g : Going start) → Counted g.file
counted_back g =
    let s0 = one_head 0 0 g in
    let s1 = one_head 1 (0 * 256 + s0.b) s0.then in
    let z : ℕ = (0 * 256 + s0.b) * 256 + s1.b in
    record {
      count = z;
      then = s1.then;
      is = s0.is ∙ ap₂ ◌∷◌ (hi s0.b s1.b s0.small s1.small) (s1.is ∙ ap (λ (x : ℕ). x ∷ s1.then.file) (lo s0.b s1.b s1.small));
      few = leb-true z 512 s1.good;
    }

headed-back : (count : ℕ) (g : Going (head 2 count)) → Headed count g.file
headed-back z g =
    let s2 = one_head 2 z g in
    let s3 = one_head 3 z s2.then in
    let s4 = one_head 4 z s3.then in
    let s5 = one_head 5 z s4.then in
    let s6 = one_head 6 z s5.then in
    let s7 = one_head 7 z s6.then in
    let s8 = one_head 8 z s7.then in
    let s9 = one_head 9 z s8.then in
    let s10 = one_head 10 z s9.then in
    let s11 = one_head 11 z s10.then in
    record {
      l = s2.b;
      d = s3.b;
      p = be16 s4.b s5.b;
      base = be16 s6.b s7.b;
      n = be16 s8.b s9.b;
      k = be16 s10.b s11.b;
      then = s11.then;
      is = s2.is
          ∙ ap (λ (m : List ℕ). s2.b ∷ m) (s3.is
          ∙ ap (λ (m : List ℕ). s3.b ∷ m) (s4.is
          ∙ ap₂ ◌∷◌ (sym (high s4.b s5.b s4.small s5.small)) (s5.is
          ∙ ap₂ ◌∷◌ (sym (low s4.b s5.b s5.small)) (s6.is
          ∙ ap₂ ◌∷◌ (sym (high s6.b s7.b s6.small s7.small)) (s7.is
          ∙ ap₂ ◌∷◌ (sym (low s6.b s7.b s7.small)) (s8.is
          ∙ ap₂ ◌∷◌ (sym (high s8.b s9.b s8.small s9.small)) (s9.is
          ∙ ap₂ ◌∷◌ (sym (low s8.b s9.b s9.small)) (s10.is
          ∙ ap₂ ◌∷◌ (sym (high s10.b s11.b s10.small s11.small)) (s11.is
          ∙ ap (λ (x : ℕ). x ∷ s11.then.file) (sym (low s10.b s11.b s11.small)))))))))));
      l-fits = s2.small;
      d-fits = s3.small;
      p-fits = fits s4.b s5.b s4.small s5.small;
      base-fits = fits s6.b s7.b s6.small s7.small;
      n-fits = fits s8.b s9.b s8.small s9.small;
      k-fits = fits s10.b s11.b s10.small s11.small;
    }
  where
    fits : (a b : ℕ) → a < 256 → b < 256 → be16 a b < 65536
    fits a b h k = omega arith

-- the bodies are as long as the table says
body_back : (file : List ℕ) (left : ℕ) → whole (run (body left) file) ≡ true → length file ≡ left
body_back [] left e = sym (eqb-true left 0 e)
body_back (b ∷ file) zero e = absurd (never (sym (ap whole (run-refused file)) ∙ e))
body_back (b ∷ file) (suc left) e = ap suc (body_back file left e)

tabled_back : (left next sum : ℕ) (g : Going (enter left next sum)) → Tabled left next sum g.file
tabled_back zero next sum g =
    let n = body_back g.file sum g.on in
    record { entries = []; rest = g.file; is = refl; many = refl; each = tt; bytes = g.bytes; room = omega arith; cut = drop_of_length-le g.file {i = sum} (omega arith) }
tabled_back (suc left) next sum g =
    let s = lined-back left next sum g in
    go g.file s (tabled_back left (next + s.size) (sum + s.size) s.then)
  where
    go : (file : List ℕ) (s : Lined left next sum file) → Tabled left (next + s.size) (sum + s.size) s.then.file → Tabled (suc left) next sum file
    go file s t =
        let part : List ℕ = take s.size (drop sum t.rest) in
        let e : Entry = record { port = s.port; body = part } in
        let room : sum + s.size ≤ length t.rest = t.room in
        let sized : length part ≡ s.size = length-take s.size (drop sum t.rest) ∙ rw (length-drop sum t.rest) (omega arith) in
        record {
          entries = e ∷ t.entries;
          rest = t.rest;
          is = s.is
              ∙ ap (λ (m : List ℕ). line_of s.port s.size next ++ m) t.is
              ∙ sym (append_assoc (line_of s.port s.size next) (table (next + s.size) t.entries) t.rest)
              ∙ ap (λ (z : ℕ). (line_of s.port z next ++ table (next + z) t.entries) ++ t.rest) (sym sized);
          many = ap suc t.many;
          each = (record { from = s.from; to = s.to; short = omega (arith, s.short); bytes = bytes_take s.size (drop sum t.rest) (bytes_drop sum t.rest t.bytes) }, t.each);
          bytes = t.bytes;
          room = omega arith;
          cut = sym (take-append-drop s.size (drop sum t.rest)) ∙ ap (λ (m : List ℕ). part ++ m) (drop-drop s.size sum t.rest ∙ t.cut);
        }

-- (b) what is accepted is a proper content's file
pub found : (file : List ℕ) → Bytes file → judge file ≡ true → (c : Content) × Proper c × (file ≡ file_of c)
unfolding judge file_of
found file h e =
    let u = counted_back (record { file = file; bytes = h; on = e }) in
    let s = headed-back u.count u.then in
    let t = tabled_back u.count (table_end u.count) 0 s.then in
    let c : Content = record { l = s.l; d = s.d; p = s.p; base = s.base; n = s.n; k = s.k; entries = t.entries } in
    let many : length t.entries ≡ u.count = t.many in (
      c,
      record { few = omega (arith, u.few); l-fits = s.l-fits; d-fits = s.d-fits; p-fits = s.p-fits; base-fits = s.base-fits; n-fits = s.n-fits; k-fits = s.k-fits; each = t.each },
      u.is
          ∙ ap (λ (m : List ℕ). bytes16 u.count ++ m) s.is
          ∙ ap (λ (m : List ℕ). header u.count s.l s.d s.p s.base s.n s.k ++ m) (t.is ∙ ap (λ (m : List ℕ). table (table_end u.count) t.entries ++ m) t.cut)
          ∙ ap (λ (z : ℕ). header z s.l s.d s.p s.base s.n s.k ++ table (table_end z) t.entries ++ bodies t.entries) (sym many),
    )
