-- Lengths (02, request 1): payloads with zeros up to P bytes, whole units, and what fits a parity packet.
use Rattle.std.specs.Prelude.{◌≡◌, Bool, ℕ, take, drop, eqb}
use mathlib.Core.List.{List}
use Rattle.xor.specs.Xor.{padded}
use Rattle.sequence.specs.Lists.{all}

-- a payload of n bytes, with zeros up to p
abbrev pub Clean : (p n : ℕ) → List ℕ → Type 0
Clean p n l = padded p (take n l) ≡ l

-- only zeros stand past the first n bytes
abbrev pub zero_past : (n : ℕ) → List ℕ → Bool
zero_past n l = all (λ b. eqb b 0) (drop n l)
