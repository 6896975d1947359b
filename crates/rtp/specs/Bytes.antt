-- Numbers in a datagram: big-endian (01, "Bytes on the wire").
use Rattle.std.specs.Prelude.{List, [], ◌∷◌, ℕ, ◌+◌, ◌*◌, ◌/◌, ◌%◌, get_or}

-- the byte at a place, 0 past the end
abbrev pub byte : List ℕ → ℕ → ℕ
byte g i = get_or g i 0

-- two bytes as a number, the first the higher
abbrev pub be16 : ℕ → ℕ → ℕ
be16 a b = a * 256 + b

-- four bytes as a number, the first the highest
abbrev pub be32 : ℕ → ℕ → ℕ → ℕ → ℕ
be32 a b c d = ((a * 256 + b) * 256 + c) * 256 + d

-- a number of 16 bits as two bytes
abbrev pub bytes16 : ℕ → List ℕ
bytes16 x = x / 256 % 256 ∷ x % 256 ∷ []

-- a number of 32 bits as four bytes
abbrev pub bytes32 : ℕ → List ℕ
bytes32 x = x / 16777216 % 256 ∷ x / 65536 % 256 ∷ x / 256 % 256 ∷ x % 256 ∷ []
