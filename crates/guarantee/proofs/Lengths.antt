-- Lengths (02, request 1): payloads with zeros up to P bytes, whole units, and what fits a parity packet.
use Rattle.std.specs.Prelude.{◌≡◌, refl, true, ◌&&◌, ℕ, zero, suc, ◌%◌, ◌<◌, ◌≤◌, length, take, replicate, eqb, leb}
use Rattle.std.proofs.Common.{sym, ap, ◌∙◌, subst, arith, length-append, eqb-true, leb-true, le-leb, take_at, take-take, length-take-le}
use mathlib.Core.List.{List, [], ◌∷◌, ◌++◌, map, Memᴰ}
use Rattle.std.proofs.Math.Nat.{max-zero, le-max_left}
use Rattle.std.proofs.Math.Decide.{dec_lt}
use Rattle.std.proofs.lemmas.List.{length-replicate}
use Rattle.std.proofs.Math.Seq.{drop-nil}
use Rattle.xor.specs.Xor.{zip_xor, padded}
use Rattle.sequence.specs.Lists.{all}
use Rattle.sequence.proofs.Lists.{and_split as both}
use Rattle.rtp.specs.Length.{unit, whole_units, good_length}
use Rattle.window.specs.declared.Window.{Window}
use Rattle.calls.specs.Content.{Content, Recovery, xor_contents, longest, fits}
use Rattle.guarantee.specs.Packets.{Whole}
use Rattle.guarantee.specs.Lengths.{Clean, zero_past}

-- ---- payloads with zeros up to p bytes
-- a payload that zeros were put to has p bytes
pub length-padded : (p : ℕ) (l : List ℕ) → length (padded p l) ≡ p
length-padded p l = length-take-le p (l ++ replicate p 0) (omega (arith, length-append l (replicate p 0), length-replicate {A = ℕ} p 0))

-- it has p bytes
pub clean_size : (p n : ℕ) (l : List ℕ) → Clean p n l → length l ≡ p
clean_size p n l e = ap length (sym e) ∙ length-padded p (take n l)

-- the payload that zeros were put to is at its front
pub padded-front : (p : ℕ) (l : List ℕ) → length l ≤ p → take (length l) (padded p l) ≡ l
padded-front p l h = take-take (length l) p (l ++ replicate p 0) h ∙ take_at l (replicate p 0) (length l) refl

-- and there are only zeros past it
pub padded_clean : (p : ℕ) (l : List ℕ) → length l ≤ p → Clean p (length l) (padded p l)
padded_clean p l h = ap (padded p) (padded-front p l h)

-- so zeros can be put to those
zeros-back : (n : ℕ) (l : List ℕ) → zero_past n l ≡ true → (m : ℕ) → length l ≤ m → take (length l) (take n l ++ replicate m 0) ≡ l
zeros-back n [] e m h = refl
zeros-back zero (b ∷ l) e zero h = absurd (omega arith)
zeros-back zero (b ∷ l) e (suc m) h = let z = both (eqb b 0) (zero_past 0 l) e in λ k. sym (eqb-true b 0 z.0) k ∷ zeros-back 0 l z.1 m (omega arith) k
zeros-back (suc n) (b ∷ l) e m h = ap (λ k. b ∷ k) (zeros-back n l e m (omega arith))

-- and it is of n bytes
pub zeros_clean : (p n : ℕ) (l : List ℕ) → length l ≡ p → zero_past n l ≡ true → Clean p n l
zeros_clean p n l size e = subst (λ m. take m (take n l ++ replicate p 0) ≡ l) size (zeros-back n l e p (omega (arith, size)))

-- past any byte of zeros there are zeros
zeros-past : (n p : ℕ) → zero_past n (replicate p 0) ≡ true
zeros-past zero zero = refl
zeros-past zero (suc p) = zeros-past 0 p
zeros-past (suc n) zero = refl
zeros-past (suc n) (suc p) = zeros-past n p

-- and past a payload that zeros were put to
pub padded-past : (p : ℕ) (l : List ℕ) → (m : ℕ) → zero_past (length l) (take p (l ++ replicate m 0)) ≡ true
padded-past zero [] m = refl
padded-past zero (b ∷ l) m = refl
padded-past (suc p) [] zero = refl
padded-past (suc p) [] (suc m) = padded-past p [] m
padded-past (suc p) (b ∷ l) m = padded-past p l m

-- where there are past n bytes, there are past more
pub past_more : (n m : ℕ) (l : List ℕ) → n ≤ m → zero_past n l ≡ true → zero_past m l ≡ true
past_more n m [] h e = ap (all (λ b. eqb b 0)) (drop-nil m)
past_more n zero (b ∷ l) h e = let z : n ≡ 0 = omega arith in rw z at e
past_more zero (suc m) (b ∷ l) h e = past_more 0 m l (omega arith) (both (eqb b 0) (zero_past 0 l) e).1
past_more (suc n) (suc m) (b ∷ l) h e = past_more n m l (omega arith) e

-- and in an exclusive-or
past-zip : (n : ℕ) (a b : List ℕ) → zero_past n a ≡ true → zero_past n b ≡ true → zero_past n (zip_xor a b) ≡ true
past-zip n [] b e f = ap (all (λ b. eqb b 0)) (drop-nil n)
past-zip n (x ∷ a) [] e f = ap (all (λ b. eqb b 0)) (drop-nil n)
past-zip zero (x ∷ a) (y ∷ b) e f =
    let u = both (eqb x 0) (zero_past 0 a) e in
    let v = both (eqb y 0) (zero_past 0 b) f in
    rw (eqb-true x 0 u.0, eqb-true y 0 v.0) (past-zip 0 a b u.1 v.1)
past-zip (suc n) (x ∷ a) (y ∷ b) e f = past-zip n a b e f

-- and in that of a list of contents
pub past_xors : (p n : ℕ) (content : ℕ → Content) (g : List ℕ) → ((j : ℕ) → Memᴰ j g → zero_past n (content j).payload ≡ true) → zero_past n (xor_contents p content g).payload ≡ true
past_xors p n content [] h = zeros-past n p
past_xors p n content (j ∷ g) h = past-zip n (content j).payload (xor_contents p content g).payload (h j (Memᴰ.head refl)) (past_xors p n content g (λ i m. h i (Memᴰ.tail m)))

-- ---- lengths, and what fits a parity packet
-- whole units up to a number of bytes are no more than that
pub units_le : (p most n : ℕ) → whole_units p most n ≡ true → n ≤ most
units_le p most n e = leb-true n most (both (leb 1 n) (leb n most) (both (leb 1 n && leb n most) (eqb (n % unit p) 0) e).0).1

-- and are whole units up to any number that they are no more than
pub units_upto : (p most other n : ℕ) → whole_units p most n ≡ true → n ≤ other → whole_units p other n ≡ true
units_upto p most other n e h =
    let z = both (leb 1 n && leb n most) (eqb (n % unit p) 0) e in
    rw ((both (leb 1 n) (leb n most) z.0).0, le-leb n other h) z.1

-- the longest is no shorter than any of them
pub longest-le : (f : ℕ → ℕ) (g : List ℕ) (i : ℕ) → Memᴰ i g → f i ≤ longest (map f g)
longest-le f [] i m = elim m [ ]
longest-le f (j ∷ g) i (Memᴰ.head e) = rw e (le-max_left (f j) (longest (map f g)))
longest-le f (j ∷ g) i (Memᴰ.tail m) = let z = longest-le f g i m in omega arith

-- and is a good length, if there are some and all are
pub longest-good : (p : ℕ) (f : ℕ → ℕ) (g : List ℕ) → ((j : ℕ) → Memᴰ j g → good_length p (f j) ≡ true) → 0 < length g → good_length p (longest (map f g)) ≡ true
longest-good p f [] h some = absurd (omega arith)
longest-good p f (i ∷ []) h some = rw (max-zero (f i)) (h i (Memᴰ.head refl))
longest-good p f (i ∷ j ∷ g) h some = go (dec_lt (f i) (longest (map f (j ∷ g)))) (longest-good p f (j ∷ g) (λ k m. h k (Memᴰ.tail m)) (omega arith))
  where
    go : Dec (f i < longest (map f (j ∷ g))) → good_length p (longest (map f (j ∷ g))) ≡ true → good_length p (longest (map f (i ∷ j ∷ g))) ≡ true
    go (yes l) z = let e : longest (map f (i ∷ j ∷ g)) ≡ longest (map f (j ∷ g)) = omega arith in rw e z
    go (no l) z = let e : longest (map f (i ∷ j ∷ g)) ≡ f i = omega arith in rw e (h i (Memᴰ.head refl))

-- a content that fits a parity packet
module _ (w : Window) (v : Recovery) (c : Content) (ok : fits w v c ≡ true) where
  -- its length is good, if that of the parity packet's own payload is
  pub fits-good : good_length w.p v.size ≡ true → good_length w.p c.length ≡ true
  fits-good h =
      let z = (both (whole_units w.p v.size c.length) (zero_past c.length c.payload) ok).0 in
      let b = units_le w.p w.p v.size h in
      units_upto w.p v.size w.p c.length z (omega (arith, units_le w.p v.size c.length z))

  -- and there are only zeros past it
  pub fits-clean : Whole w.p c → Clean w.p c.length c.payload
  fits-clean size = zeros_clean w.p c.length c.payload size (both (whole_units w.p v.size c.length) (zero_past c.length c.payload) ok).1
