-- The payload of a datagram as it is laid down. Assumes nothing.
use Rattle.std.proofs.Common.{◌≡◌, sym, ap, ◌∙◌, List, ℕ, ◌+◌, ◌-◌, ◌≤◌, ◌++◌, arith, length, take, drop, length-take-le, take-take, take_all, length-drop, drop_of_length-le, drop-drop, zero-add, append-nil, append_assoc, []}
use Rattle.std.proofs.Math.Seq.{paste}
use Rattle.std.proofs.lemmas.Slice.{put_mid-paste}
use borrow.Rule.Slice.PartMut.{put_mid}
use Rattle.xor.specs.Xor.{padded}
use Rattle.xor.specs.Padded.{padded-front}

-- the front of a payload that was given zeros up to p bytes
pub front : (n p : ℕ) (y : List ℕ) → n ≤ p → n ≤ length y → take n y ≡ take n (padded p (take n y))
front n p y h hy =
    let l = length-take-le n y hy in
    sym (padded-front p (take n y) (omega arith)) ∙ ap (λ (k : ℕ). take k (padded p (take n y))) l

-- a part copied over a part of the output
pub copied : (out src ys : List ℕ) (to at n k : ℕ) → k ≡ n → n ≤ length (drop at src) → ys ≡ take (at + n - at) (drop at src) → put_mid to k out ys ≡ paste out to (drop at src) n
copied out src ys to at n k e h y =
    let m : at + n - at ≡ n = omega arith in
    put_mid-paste to k out ys (take n (drop at src)) n (y ∙ ap (λ (i : ℕ). take i (drop at src)) m) (sym e) (sym (length-take-le n (drop at src) h))
    ∙ ap (λ (l : List ℕ). take to out ++ l ++ drop (to + n) out) (take-take n n (drop at src) (omega arith))

-- what was laid at the front of the output behind its headers
pub behind : (out x ys : List ℕ) (to n : ℕ) → to ≤ length out → ys ≡ paste (take (length out - to) (drop to out)) 0 x n → put_mid to (length out - to) out ys ≡ paste out to x n
behind out x ys to n h y =
    let e : take (length out - to) (drop to out) ≡ drop to out = take_all (length out - to) (drop to out) (omega (arith, length-drop to out)) in
    let z : drop (length out - to) (drop to out) ≡ [] = drop_of_length-le (drop to out) (omega (arith, length-drop to out)) in
    let d : drop n (drop to out) ≡ drop (to + n) out = drop-drop n to out in
    rw (y, e, z, zero-add n, d, append-nil) (sym (append_assoc (take to out) (take n x) (drop (to + n) out)))
