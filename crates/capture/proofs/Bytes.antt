-- Lists of bytes, and numbers in them, there and back.
use Rattle.std.specs.Prelude.{◌≡◌, List, [], ◌∷◌, ◌++◌, ℕ, zero, suc, ◌+◌, ◌*◌, ◌/◌, ◌%◌, ◌<◌, length, get_or, take, drop}
use Rattle.std.proofs.Math.Nat.{div-div-eq-div-mul}
use Rattle.std.proofs.Common.{div-add-mod', mod-eq_of_lt, arith}
use Rattle.rtp.specs.Bytes.{be16, be32, bytes16, bytes32}
use Rattle.capture.specs.Bytes.{Bytes}

-- as a contract has it of a slice of u8
pub bytes_of : (l : List ℕ) → ((i : ℕ) → i < length l → get_or l i 0 < 256) → Bytes l
bytes_of [] h = tt
bytes_of (b ∷ l) h = (h 0 (omega arith), bytes_of l (λ i k. h (suc i) (omega arith)))

pub bytes-append : (l m : List ℕ) → Bytes l → Bytes m → Bytes (l ++ m)
bytes-append [] m h k = k
bytes-append (b ∷ l) m h k = (h.0, bytes-append l m h.1 k)

pub bytes_take : (n : ℕ) (l : List ℕ) → Bytes l → Bytes (take n l)
bytes_take zero l h = tt
bytes_take (suc n) [] h = tt
bytes_take (suc n) (b ∷ l) h = (h.0, bytes_take n l h.1)

pub bytes_drop : (n : ℕ) (l : List ℕ) → Bytes l → Bytes (drop n l)
bytes_drop zero l h = h
bytes_drop (suc n) [] h = tt
bytes_drop (suc n) (b ∷ l) h = bytes_drop n l h.1

pub bytes-right : (l m : List ℕ) → Bytes (l ++ m) → Bytes m
bytes-right [] m h = h
bytes-right (b ∷ l) m h = bytes-right l m h.1

-- there and back
pub be16-bytes16 : (x : ℕ) → x < 65536 → be16 (x / 256 % 256) (x % 256) ≡ x
be16-bytes16 x h = omega arith

be32-join : (x a b c xm am bm cm : ℕ) → a * 256 + xm ≡ x → b * 256 + am ≡ a → c * 256 + bm ≡ b → cm ≡ c → be32 cm bm am xm ≡ x
be32-join x a b c xm am bm cm e f g h = omega arith

pub be32-bytes32 : (x : ℕ) → x < 4294967296 → be32 (x / 16777216 % 256) (x / 65536 % 256) (x / 256 % 256) (x % 256) ≡ x
be32-bytes32 x h =
    let e : x / 256 / 256 ≡ x / 65536 = div-div-eq-div-mul x 256 256 in
    let f : x / 65536 / 256 ≡ x / 16777216 = div-div-eq-div-mul x 65536 256 in
    be32-join x (x / 256) (x / 65536) (x / 16777216) (x % 256) (x / 256 % 256) (x / 65536 % 256) (x / 16777216 % 256)
    (div-add-mod' x 256)
    (rw (← e) (div-add-mod' (x / 256) 256))
    (rw (← f) (div-add-mod' (x / 65536) 256))
    (mod-eq_of_lt (omega arith))

pub high : (a b : ℕ) → a < 256 → b < 256 → be16 a b / 256 % 256 ≡ a
high a b h k = omega arith

pub low : (a b : ℕ) → b < 256 → be16 a b % 256 ≡ b
low a b k = omega arith

pub bytes_16 : (x : ℕ) → Bytes (bytes16 x)
bytes_16 x = (omega arith, (omega arith, tt))

pub bytes_32 : (x : ℕ) → Bytes (bytes32 x)
bytes_32 x = (omega arith, (omega arith, (omega arith, (omega arith, tt))))
