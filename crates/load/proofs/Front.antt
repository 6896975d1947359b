-- What the front of a file says, one way through the definitions at a time. Assumes nothing.
use Rattle.std.proofs.Common.{◌≡◌, sym, subst, List, ℕ, ◌+◌, ◌≤◌, ◌<◌, arith, lt-ltb, le-ltb, le-leb, length}
use Rattle.std.proofs.lemmas.Bool.{lt-leb}
use Rattle.rtp.specs.Bytes.{byte, be16, be32}
use Rattle.capture.specs.declared.Header.{Header}
use Rattle.capture.specs.declared.Line.{Line}
use Rattle.capture.specs.Content.{header_size, most_entries, table_end}
use Rattle.capture.specs.Reads.{count_at, port_at, size_at, start_at}
use Rattle.capture.specs.Calls.{no_header, header_read, no_entry, entry_read}

module _ (f : List ℕ) where
  pub header-short : length f < header_size → no_header ≡ header_read f
  unfolding header_read
  header-short h = sym (rw (lt-ltb (length f) header_size h))

  pub header-many : header_size ≤ length f → most_entries < count_at f → no_header ≡ header_read f
  unfolding header_read
  header-many h k = sym (rw (le-ltb (length f) header_size h, lt-ltb most_entries (count_at f) k))

  pub header-good : (count base l d p n k : ℕ) → header_size ≤ length f → count ≤ most_entries → count ≡ count_at f → base ≡ be16 (byte f 6) (byte f 7) → l ≡ byte f 2 → d ≡ byte f 3
      → p ≡ be16 (byte f 4) (byte f 5) → n ≡ be16 (byte f 8) (byte f 9) → k ≡ be16 (byte f 10) (byte f 11)
      → ◌≡◌ {A = Header} (record { number = 0; base = base; count = count; l = l; d = d; p = p; n = n; k = k }) (header_read f)
  unfolding header_read
  header-good count base l d p n k h few ec eb el ed ep en ek =
      let m : count_at f ≤ most_entries = subst (λ (c : ℕ). c ≤ most_entries) ec few in
      rw (ec, eb, el, ed, ep, en, ek) (sym (rw (le-ltb (length f) header_size h, le-ltb most_entries (count_at f) m)))

module _ (f : List ℕ) (i count : ℕ) (e : count ≡ (header_read f).count) where
  pub entry_none : count ≤ i → no_entry ≡ entry_read f i
  unfolding entry_read
  entry_none h = sym (rw (← e, le-ltb i count h))

  pub entry_past : i < count → length f < table_end (i + 1) → no_entry ≡ entry_read f i
  unfolding entry_read
  entry_past h k = sym (rw (← e, lt-ltb i count h, lt-leb (table_end (i + 1)) (length f) k))

  pub entry_good : (port start size : ℕ) → i < count → table_end (i + 1) ≤ length f → port ≡ port_at f i → start ≡ start_at f i → size ≡ size_at f i
      → ◌≡◌ {A = Line} (record { number = 0; port = port; start = start; length = size }) (entry_read f i)
  unfolding entry_read
  entry_good port start size h k ep es en = rw (ep, es, en) (sym (rw (← e, lt-ltb i count h, le-leb (table_end (i + 1)) (length f) k)))

-- the bytes of a length and of a start, as they are read one after the other
pub size-bytes : (f : List ℕ) (a : ℕ) → be16 (byte f (a + 2)) (byte f (a + 2 + 1)) ≡ be16 (byte f (a + 2)) (byte f (a + 3))
size-bytes f a = let e : a + 2 + 1 ≡ a + 3 = omega arith in rw e

pub start-bytes : (f : List ℕ) (a : ℕ)
    → be32 (byte f (a + 4)) (byte f (a + 4 + 1)) (byte f (a + 4 + 2)) (byte f (a + 4 + 3)) ≡ be32 (byte f (a + 4)) (byte f (a + 5)) (byte f (a + 6)) (byte f (a + 7))
start-bytes f a =
    let e : a + 4 + 1 ≡ a + 5 = omega arith in
    let g : a + 4 + 2 ≡ a + 6 = omega arith in
    let h : a + 4 + 3 ≡ a + 7 = omega arith in
    rw (e, g, h)
