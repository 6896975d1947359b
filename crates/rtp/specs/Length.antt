-- Lengths of payloads (02, request 1; 004, 4.3 and 4.4).
use Rattle.std.specs.Prelude.{◌≡◌, Bool, true, cond, ◌&&◌, ℕ, ◌%◌, ◌≤◌, eqb, leb}
use Rattle.std.proofs.Common.{leb-true}
use Rattle.sequence.proofs.Lists.{and_split}

-- bytes of a transport stream packet, as the largest payload size P has it: 188, or else 204
abbrev pub unit : (p : ℕ) → ℕ
unit p = cond (eqb (p % 188) 0) 188 204

-- one or more whole units, up to a number of bytes
abbrev pub whole_units : (p most n : ℕ) → Bool
whole_units p most n = leb 1 n && leb n most && eqb (n % unit p) 0

-- a length that a payload may have: one or more whole units up to P
abbrev pub good_length : (p n : ℕ) → Bool
good_length p n = whole_units p p n

-- whole units up to a number of bytes are one byte at least, and no more than that number
pub whole-low : (p most n : ℕ) → whole_units p most n ≡ true → 1 ≤ n
whole-low p most n e = leb-true 1 n (and_split (leb 1 n) (leb n most) (and_split (leb 1 n && leb n most) (eqb (n % unit p) 0) e).0).0

pub whole-high : (p most n : ℕ) → whole_units p most n ≡ true → n ≤ most
whole-high p most n e = leb-true n most (and_split (leb 1 n) (leb n most) (and_split (leb 1 n && leb n most) (eqb (n % unit p) 0) e).0).1
