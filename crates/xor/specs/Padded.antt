-- Laws of payloads with zeros up to p bytes. Assumes nothing.
use Rattle.std.specs.Prelude.{◌≡◌, refl, ◌⊎◌, Bool, ◌&&◌, List, [], ◌∷◌, ◌++◌, ℕ, zero, suc, ◌+◌, ◌-◌, ◌≤◌, eqb, length, take, drop, replicate}
use Rattle.std.proofs.Common.{sym, ap, ap₂, ◌∙◌, inl, inr, append_assoc, arith, length-append, length-take, length-drop, take-append-drop, zero-add, take_at, drop_at, take_all, take-take, drop-drop, length-take-le}
use Rattle.std.specs.Int.Bits.{bit_xor, xor_zero_r}
use Rattle.std.proofs.lemmas.List.{length-replicate, replicate-append-replicate, take-append-le}
use Rattle.std.proofs.Math.Seq.{paste, take-append-add}
use Rattle.std.proofs.lemmas.List.Edits.{take-paste, drop-paste}
use Rattle.xor.specs.Xor.{zip_xor, xor_at, padded, take-zip, length-zip}
use Rattle.xor.specs.Same.{same, same_self}

-- n zeros
abbrev pub zeros : ℕ → List ℕ
zeros n = replicate n 0

pub take-replicate : (k p : ℕ) → k ≤ p → take k (zeros p) ≡ zeros k
take-replicate k p h =
    let e : k + (p - k) ≡ p = omega arith in
    ap (λ (n : ℕ). take k (zeros n)) (sym e) ∙ ap (take k) (sym (replicate-append-replicate {A = ℕ} k (p - k) 0)) ∙ take_at (zeros k) (zeros (p - k)) k (length-replicate k 0)

drop-replicate : (k p : ℕ) → k ≤ p → drop k (zeros p) ≡ zeros (p - k)
drop-replicate k p h =
    let e : k + (p - k) ≡ p = omega arith in
    ap (λ (n : ℕ). drop k (zeros n)) (sym e) ∙ ap (drop k) (sym (replicate-append-replicate {A = ℕ} k (p - k) 0)) ∙ drop_at (zeros k) (zeros (p - k)) k (length-replicate k 0)

-- it has p bytes
pub length-padded : (p : ℕ) (l : List ℕ) → length (padded p l) ≡ p
length-padded p l = length-take-le p (l ++ replicate p 0) (simp (length-append, length-replicate) (omega arith))

-- a payload of no more than p bytes, and then zeros
pub padded_split : (p : ℕ) (l : List ℕ) → length l ≤ p → padded p l ≡ l ++ replicate (p - length l) 0
padded_split p l h =
    let e : length l + (p - length l) ≡ p = omega arith in
    ap (λ (n : ℕ). take n (l ++ zeros p)) (sym e) ∙ take-append-add l (zeros p) (p - length l) ∙ ap (λ (r : List ℕ). l ++ r) (take-replicate (p - length l) p (omega arith))

-- one of p bytes is itself
pub padded_full : (p : ℕ) (l : List ℕ) → length l ≡ p → padded p l ≡ l
padded_full p l e = take_at l (replicate p 0) p e

-- its front is the payload
pub padded-front : (p : ℕ) (l : List ℕ) → length l ≤ p → take (length l) (padded p l) ≡ l
padded-front p l h = rw (padded_split p l h) (take_at l (replicate (p - length l) 0) (length l) refl)

-- its first bytes are the payload's with zeros up to as many
pub take-padded : (n p : ℕ) (l : List ℕ) → n ≤ p → take n (padded p l) ≡ padded n l
take-padded n p l h =
    let e : n + (p - n) ≡ p = omega arith in
    let split : l ++ replicate p 0 ≡ (l ++ replicate n 0) ++ replicate (p - n) 0 =
    ap (λ (k : ℕ). l ++ replicate k 0) (sym e) ∙ ap (λ (r : List ℕ). l ++ r) (sym (replicate-append-replicate {A = ℕ} n (p - n) 0)) ∙ sym (append_assoc l (replicate n 0) (replicate (p - n) 0)) in
    take-take n p (l ++ replicate p 0) h ∙ ap (take n) split
    ∙ take-append-le n (l ++ replicate n 0) (replicate (p - n) 0) (simp (length-append, length-replicate) (omega arith))

-- what a payload has past p bytes does not count
pub padded-cut : (n m p : ℕ) (l : List ℕ) → (m ≡ n) ⊎ ((m ≡ p) × (p ≤ n)) → m ≤ length l → padded p (take n l) ≡ padded p (take m l)
padded-cut n m p l (inl e) h = rw e
padded-cut n m p l (inr (e, b)) h =
    let long : p ≤ length (take n l) = simp length-take (omega arith) in
    take-append-le p (take n l) (replicate p 0) long ∙ take-take p n l b ∙ ap (λ k. take k l) (sym e)
    ∙ sym (padded_full p (take m l) (length-take-le m l h ∙ e))

-- ---- comparing
same-append : (a b z : List ℕ) → length a ≡ length b → same (a ++ z) (b ++ z) ≡ same a b
same-append [] [] z e = same_self z
same-append [] (y ∷ b) z e = absurd (omega (arith, e))
same-append (x ∷ a) [] z e = absurd (omega (arith, e))
same-append (x ∷ a) (y ∷ b) z e = ap (λ (t : Bool). eqb x y && t) (same-append a b z (omega arith))

-- payloads of one length are the same exactly if they are with zeros up to p
pub same-padded : (p : ℕ) (a b : List ℕ) → length a ≡ length b → length a ≤ p → same (padded p a) (padded p b) ≡ same a b
same-padded p a b e h =
    ap₂ same (padded_split p a h) (padded_split p b (omega (arith, e)) ∙ ap (λ (n : ℕ). b ++ replicate (p - n) 0) (sym e))
    ∙ same-append a b (replicate (p - length a) 0) e

-- ---- laying

-- n elements pasted in, and then zeros up to p
pub lay_zeros : (d : List ℕ) (at : ℕ) (s : List ℕ) (n p : ℕ) → n ≤ p → at + p ≤ length d → n ≤ length s
    → paste (paste d at s n) (at + n) (replicate (p - n) 0) (p - n) ≡ paste d at (padded p (take n s)) p
lay_zeros d at s n p h hd hs =
    let ln : length (take n s) ≡ n = length-take-le n s hs in
    let zs : List ℕ = replicate (p - n) 0 in
    let whole : take p (padded p (take n s)) ≡ take n s ++ zs =
    take_all p (padded p (take n s)) (omega (arith, length-padded p (take n s))) ∙ padded_split p (take n s) (omega (arith, ln)) ∙ ap (λ (k : ℕ). take n s ++ replicate (p - k) 0) ln in
    let rest : drop (at + n + (p - n)) (paste d at s n) ≡ drop (at + p) d =
    sym (drop-drop (p - n) (at + n) (paste d at s n)) ∙ ap (drop (p - n)) (drop-paste d at s n (omega arith) hs) ∙ drop-drop (p - n) (at + n) d
    ∙ (let e : at + n + (p - n) ≡ at + p = omega arith in ap (λ (k : ℕ). drop k d) e) in
    ap₂ (λ (x y : List ℕ). x ++ y)
    (ap₂ (λ (x y : List ℕ). x ++ y) (take-paste d at s n (omega arith) hs) (take_all (p - n) zs (omega (arith, length-replicate {A = ℕ} (p - n) 0))) ∙ append_assoc (take at d) (take n s) zs ∙ ap (λ (r : List ℕ). take at d ++ r) (sym whole))
    rest

-- what is pasted at the front stands there
pub take-front : (d s : List ℕ) (p : ℕ) → p ≤ length d → p ≤ length s → take p (paste d 0 s p) ≡ take p s
take-front d s p hd hs = ap (λ (n : ℕ). take n (paste d 0 s p)) (sym (zero-add p)) ∙ take-paste d 0 s p (omega arith) hs

-- n elements pasted at the front of zeros
pub zeros-front : (p n most : ℕ) (s : List ℕ) → n ≤ p → p ≤ most → n ≤ length s → take p (paste (zeros most) 0 s n) ≡ padded p (take n s)
zeros-front p n most s h hp hs =
    let ln : length (take n s) ≡ n = length-take-le n s hs in
    let rest : drop n (zeros most) ≡ zeros (most - n) = drop-replicate n most (omega arith) in
    let e : n + (p - n) ≡ p = omega arith in
    ap (λ (r : List ℕ). take p (take n s ++ r)) (ap (λ (k : ℕ). drop k (zeros most)) (zero-add n) ∙ rest)
    ∙ ap (λ (k : ℕ). take k (take n s ++ zeros (most - n))) (sym (ap (λ (k : ℕ). k + (p - n)) ln ∙ e))
    ∙ take-append-add (take n s) (zeros (most - n)) (p - n)
    ∙ ap (λ (r : List ℕ). take n s ++ r) (take-replicate (p - n) (most - n) (omega arith))
    ∙ sym (padded_split p (take n s) (omega arith) ∙ ap (λ (k : ℕ). take n s ++ zeros (p - k)) ln)

-- ---- xoring

zip-append : (s x y : List ℕ) → zip_xor s (x ++ y) ≡ zip_xor (take (length x) s) x ++ zip_xor (drop (length x) s) y
zip-append [] [] y = refl
zip-append [] (b ∷ x) y = refl
zip-append (a ∷ s) [] y = refl
zip-append (a ∷ s) (b ∷ x) y = ap (λ (l : List ℕ). bit_xor a b ∷ l) (zip-append s x y)

pub take-zeros : (p : ℕ) (z : List ℕ) → p ≤ length z → take p (zip_xor z (replicate p 0)) ≡ take p z
take-zeros zero z h = refl
take-zeros (suc p) [] h = absurd (omega (arith, h))
take-zeros (suc p) (a ∷ z) h = ap₂ ◌∷◌ (xor_zero_r a) (take-zeros p z (omega arith))

-- a payload of m bytes xored in is that payload with zeros up to p
pub xor-padded : (d : List ℕ) (at : ℕ) (s : List ℕ) (m p : ℕ) → m ≤ p → at + p ≤ length d → m ≤ length s
    → xor_at d at s m ≡ xor_at d at (padded p (take m s)) p
xor-padded d at s m p h hd hs =
    let x : List ℕ = take m s in
    let lx : length x ≡ m = length-take-le m s hs in
    let D : List ℕ = drop at d in
    let zs : List ℕ = replicate (p - m) 0 in
    let A : List ℕ = zip_xor (take m D) x in
    let lD : length (take m D) ≡ m = length-take-le m D (simp length-drop (omega arith)) in
    let lA : length A ≡ m = length-zip (take m D) x (lD ∙ sym lx) ∙ lD in
    let split : zip_xor D (padded p x) ≡ A ++ zip_xor (drop m D) zs =
    ap (zip_xor D) (padded_split p x (omega (arith, lx)) ∙ ap (λ (k : ℕ). x ++ replicate (p - k) 0) lx) ∙ zip-append D x zs ∙ ap (λ (k : ℕ). zip_xor (take k D) x ++ zip_xor (drop k D) zs) lx in
    let sum : m + (p - m) ≡ p = omega arith in
    let front : take p (zip_xor D (padded p x)) ≡ A ++ take (p - m) (drop m D) =
    ap (take p) split ∙ ap (λ (k : ℕ). take k (A ++ zip_xor (drop m D) zs)) (sym (ap (λ (k : ℕ). k + (p - m)) lA ∙ sum)) ∙ take-append-add A (zip_xor (drop m D) zs) (p - m)
    ∙ ap (λ (r : List ℕ). A ++ r) (take-zeros (p - m) (drop m D) (simp length-drop (omega arith))) in
    let back : take (p - m) (drop m D) ++ drop (at + p) d ≡ drop (at + m) d =
    ap₂ (λ (y z : List ℕ). take (p - m) y ++ z) (drop-drop m at d) (let e : at + p ≡ at + m + (p - m) = omega arith in ap (λ (k : ℕ). drop k d) e ∙ sym (drop-drop (p - m) (at + m) d))
    ∙ take-append-drop (p - m) (drop (at + m) d) in
    sym
    (ap (λ (r : List ℕ). (take at d ++ r) ++ drop (at + p) d) front
    ∙ append_assoc (take at d) (A ++ take (p - m) (drop m D)) (drop (at + p) d)
    ∙ ap (λ (r : List ℕ). take at d ++ r) (append_assoc A (take (p - m) (drop m D)) (drop (at + p) d) ∙ ap₂ (λ (y z : List ℕ). y ++ z) (sym (take-zip m D s)) back)
    ∙ sym (append_assoc (take at d) (take m (zip_xor D s)) (drop (at + m) d)))

-- zeros are put to zeros
pub padded-zeros : (k p : ℕ) → k ≤ p → padded p (zeros k) ≡ zeros p
padded-zeros k p h =
    let e : k + (p - k) ≡ p = omega arith in
    let l = length-replicate {A = ℕ} k 0 in
    padded_split p (zeros k) (omega (arith, l)) ∙ ap (λ (n : ℕ). zeros k ++ zeros (p - n)) l ∙ replicate-append-replicate {A = ℕ} k (p - k) 0 ∙ ap zeros e

-- zeros up to k and then up to p are zeros up to p
pub padded_twice : (k p : ℕ) (l : List ℕ) → length l ≤ k → k ≤ p → padded p (padded k l) ≡ padded p l
padded_twice k p l h hp =
    let lk = length-padded k l in
    let e : k - length l + (p - k) ≡ p - length l = omega arith in
    padded_split p (padded k l) (omega (arith, lk)) ∙ ap₂ (λ (x : List ℕ) (n : ℕ). x ++ zeros (p - n)) (padded_split k l h) lk ∙ append_assoc l (zeros (k - length l)) (zeros (p - k))
    ∙ ap (λ (r : List ℕ). l ++ r) (replicate-append-replicate {A = ℕ} (k - length l) (p - k) 0 ∙ ap zeros e)
    ∙ sym (padded_split p l (omega arith))

zip-zeros : (n : ℕ) → zip_xor (zeros n) (zeros n) ≡ zeros n
zip-zeros zero = refl
zip-zeros (suc n) = ap (λ (l : List ℕ). 0 ∷ l) (zip-zeros n)

-- the exclusive-or of payloads of one length, with zeros up to p, is theirs with zeros up to p
pub zip-padded : (p : ℕ) (a b : List ℕ) → length a ≡ length b → length a ≤ p → zip_xor (padded p a) (padded p b) ≡ padded p (zip_xor a b)
zip-padded p a b e h =
    let n : ℕ = length a in
    let lz : length (zip_xor a b) ≡ n = length-zip a b e in
    let z : List ℕ = zeros (p - n) in
    let ez : zip_xor a b ++ z ≡ padded p (zip_xor a b) = sym (padded_split p (zip_xor a b) (omega (arith, lz)) ∙ ap (λ (k : ℕ). zip_xor a b ++ zeros (p - k)) lz) in
    ap₂ zip_xor (padded_split p a h) (padded_split p b (omega (arith, e)) ∙ ap (λ (k : ℕ). b ++ zeros (p - k)) (sym e))
    ∙ zip-append (a ++ z) b z
    ∙ ap₂ (λ (x y : List ℕ). zip_xor x b ++ zip_xor y z) (take_at a z (length b) e) (drop_at a z (length b) e)
    ∙ ap (λ (r : List ℕ). zip_xor a b ++ r) (zip-zeros (p - n))
    ∙ ez
