-- What is accepted is a proper content's file.
use Rattle.std.specs.Prelude.{◌≡◌, Bool, true, List, [], ◌∷◌, ◌++◌, ℕ, ◌+◌, ◌≤◌, ◌<◌, length, drop}
use Rattle.rtp.specs.Bytes.{bytes16}
use Rattle.capture.specs.Bytes.{Bytes}
use Rattle.capture.specs.Content.{Entry, line_of, table, bodies, table_end, ProperEntries}
use Rattle.capture.specs.Stage.{Stage, enter, head, run, whole}

-- bytes that are accepted from a state on
pub record Going (r : Stage) : Type 0 where
  pub file : List ℕ
  pub bytes : Bytes file
  pub on : whole (run r file) ≡ true

-- a byte that was let pass (what follows is one field: a chain of such steps mentions each step once)
pub record Fed (test : ℕ → Bool) (next : ℕ → Stage) (file : List ℕ) : Type 0 where
  pub b : ℕ
  pub then : Going (next b)
  pub is : file ≡ b ∷ then.file
  pub small : b < 256
  pub good : test b ≡ true

pub record Lined (left next sum : ℕ) (file : List ℕ) : Type 0 where
  pub port : ℕ
  pub size : ℕ
  pub then : Going (enter left (next + size) (sum + size))
  pub is : file ≡ line_of port size next ++ then.file
  pub from : 1 ≤ port
  pub to : port ≤ 3
  pub short : size ≤ 1500

pub record Counted (file : List ℕ) : Type 0 where
  pub count : ℕ
  pub then : Going (head 2 count)
  pub is : file ≡ bytes16 count ++ then.file
  pub few : count ≤ 512

pub record Headed (count : ℕ) (file : List ℕ) : Type 0 where
  pub l : ℕ
  pub d : ℕ
  pub p : ℕ
  pub base : ℕ
  pub n : ℕ
  pub k : ℕ
  pub then : Going (enter count (table_end count) 0)
  pub is : file ≡ (l ∷ d ∷ []) ++ bytes16 p ++ bytes16 base ++ bytes16 n ++ bytes16 k ++ then.file
  pub l-fits : l < 256
  pub d-fits : d < 256
  pub p-fits : p < 65536
  pub base-fits : base < 65536
  pub n-fits : n < 65536
  pub k-fits : k < 65536

-- the entries, once the bodies' bytes are there
pub record Tabled (left next sum : ℕ) (file : List ℕ) : Type 0 where
  pub entries : List Entry
  pub rest : List ℕ
  pub is : file ≡ table next entries ++ rest
  pub many : length entries ≡ left
  pub each : ProperEntries entries
  pub bytes : Bytes rest
  pub room : sum ≤ length rest
  pub cut : drop sum rest ≡ bodies entries
