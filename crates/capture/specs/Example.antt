-- The request's example, by computation.
use Rattle.std.specs.Prelude.{Bool, true, false, not, ◌&&◌, ◌||◌, List, [], ◌∷◌, ℕ, zero, suc, eqb, ltb, leb, set}
use Rattle.rtp.specs.Bytes.{byte}
use Rattle.capture.specs.Content.{Content}
use Rattle.capture.specs.Stage.{judge}

abbrev pub example : List ℕ
example =
    0x00 ∷ 0x01 ∷ 0x04 ∷ 0x04 ∷ 0x00 ∷ 0xBC ∷ 0xFF ∷ 0xFA ∷ 0x00 ∷ 0x10 ∷ 0x00 ∷ 0x08
    ∷ 0x01 ∷ 0x00 ∷ 0x00 ∷ 0x02 ∷ 0x00 ∷ 0x00 ∷ 0x00 ∷ 0x14
    ∷ 0xAB ∷ 0xCD ∷ []

abbrev pub content : Content
content = record { l = 4; d = 4; p = 188; base = 65530; n = 16; k = 8; entries = record { port = 1; body = 0xAB ∷ 0xCD ∷ [] } ∷ [] }

-- which bytes may stand at a place of the example in place of its own: numbers of the header, and the port
abbrev may : (i v : ℕ) → Bool
may i v = eqb v (byte example i) || (leb 2 i && ltb i 12) || (eqb i 12 && leb 1 v && leb v 3)

unfoldable pub same : Bool → Bool → Bool
same true b = b
same false b = not b

-- places from i on, and values from v on
abbrev values : (i v : ℕ) → ℕ → Bool
values i v zero = true
values i v (suc m) = same (judge (set example i v)) (may i v) && values i (suc v) m

abbrev pub places : (i : ℕ) → ℕ → Bool
places i zero = true
places i (suc m) = values i 0 256 && places (suc i) m
