-- Rows xored in one after another are the exclusive-or of their payloads, xored in once. Assumes nothing.
use Rattle.std.specs.Prelude.{◌≡◌, refl, List, [], ◌∷◌, ◌++◌, map, ℕ, zero, suc, ◌+◌, ◌*◌, ◌≤◌, length, take, drop, replicate}
use Rattle.std.proofs.Common.{sym, ap, ap₂, ◌∙◌, arith, length-drop, take-append-drop, zero-add, length-take-le, take-add, take-take}
use Rattle.std.proofs.lemmas.List.{length-replicate}
use Rattle.std.proofs.Math.Seq.{paste}
use Rattle.std.proofs.lemmas.List.Edits.{take-paste, length-paste}
use Rattle.std.specs.Int.Bits.{bit_xor, xor_zero_r}
use Rattle.xor.specs.Xor.{zip_xor, xor_parts, xor_payloads, take-zip, length-zip, le-zip, paste-xor}
use Rattle.xor.specs.Laws.{zip_assoc}
use Rattle.parity.specs.Rows.{places}

-- the p bytes of a row
abbrev pub row_at : (p : ℕ) → List ℕ → ℕ → List ℕ
row_at p media i = take p (drop (i * p) media)

-- every row of a list ends within the media store
abbrev pub Ends : (p : ℕ) → List ℕ → List ℕ → Type 0
Ends p media [] = Unit
Ends p media (i ∷ rows) = (i * p + p ≤ length media) × Ends p media rows

length-row : (p : ℕ) (media : List ℕ) (i : ℕ) → i * p + p ≤ length media → length (row_at p media i) ≡ p
length-row p media i h = length-take-le p (drop (i * p) media) (simp length-drop (omega arith))

pub length-payloads : (p : ℕ) (media rows : List ℕ) → Ends p media rows → length (xor_payloads p (map (row_at p media) rows)) ≡ p
length-payloads p media [] e = length-replicate p 0
length-payloads p media (i ∷ rows) e =
    let r = length-row p media i e.0 in
    length-zip (row_at p media i) (xor_payloads p (map (row_at p media) rows)) (r ∙ sym (length-payloads p media rows e.1)) ∙ r

-- of a longer list only the front is xored
zip-front : (s t : List ℕ) → zip_xor s t ≡ zip_xor (take (length t) s) t
zip-front [] [] = refl
zip-front [] (b ∷ t) = refl
zip-front (a ∷ s) [] = refl
zip-front (a ∷ s) (b ∷ t) = ap (λ (l : List ℕ). bit_xor a b ∷ l) (zip-front s t)

take-zeros : (p : ℕ) (z : List ℕ) → p ≤ length z → take p (zip_xor z (replicate p 0)) ≡ take p z
take-zeros zero z h = refl
take-zeros (suc p) [] h = absurd (omega (arith, h))
take-zeros (suc p) (a ∷ z) h = ap₂ ◌∷◌ (xor_zero_r a) (take-zeros p z (omega arith))

-- what is pasted counts by its first p elements only
pub pasted : (p at : ℕ) (d y z : List ℕ) → take p y ≡ take p z → paste d at y p ≡ paste d at z p
pasted p at d y z e = ap (λ (l : List ℕ). take at d ++ l ++ drop (at + p) d) e

module _ (p : ℕ) (media : List ℕ) (at : ℕ) (d : List ℕ) (room : at + p ≤ length d) where
  -- rows xored into what was pasted
  pub parts-sum : (rows z : List ℕ) → Ends p media rows → p ≤ length z
      → xor_parts media (places p rows) at p (paste d at z p) ≡ paste d at (zip_xor z (xor_payloads p (map (row_at p media) rows))) p
  parts-sum [] z e h = sym (pasted p at d (zip_xor z (replicate p 0)) z (take-zeros p z h))
  parts-sum (i ∷ rows) z e h =
      let x : List ℕ = xor_payloads p (map (row_at p media) rows) in
      let row : List ℕ = drop (i * p) media in
      let long : p ≤ length row = simp length-drop (omega (arith, e.0)) in
      let front : zip_xor row x ≡ zip_xor (take p row) x = zip-front row x ∙ ap (λ (n : ℕ). zip_xor (take n row) x) (length-payloads p media rows e.1) in
      ap (xor_parts media (places p rows) at p) (paste-xor d at z row p room h)
      ∙ parts-sum rows (zip_xor z row) e.1 (le-zip p z row h long)
      ∙ ap (λ (l : List ℕ). paste d at l p) (zip_assoc z row x ∙ ap (zip_xor z) front)

  -- a list is itself with its own part pasted in
  pub paste-self : d ≡ paste d at (drop at d) p
  paste-self = sym (ap (λ (l : List ℕ). l ++ drop (at + p) d) (sym (take-add at p d)) ∙ take-append-drop (at + p) d)

-- a payload copied into a buffer, xored with another there, and read from there again
pub through_buffer : (p : ℕ) (d v x : List ℕ) → p ≤ length d → p ≤ length v → p ≤ length x
    → take p (paste (paste d 0 v p) 0 (zip_xor (paste d 0 v p) x) p) ≡ take p (zip_xor (take p v) x)
through_buffer p d v x hd hv hx =
    let y : List ℕ = paste d 0 v p in
    let e : take p y ≡ take p v = front d v hd hv in
    let long : p ≤ length (zip_xor y x) = le-zip p y x (rw (length-paste d 0 v p (rw (zero-add p) hd) hv) hd) hx in
    let ly : p ≤ length y = rw (length-paste d 0 v p (rw (zero-add p) hd) hv) hd in
    front y (zip_xor y x) ly long ∙ take-zip p y x ∙ ap (λ (l : List ℕ). zip_xor l (take p x)) (e ∙ sym (take-take p p v (omega arith))) ∙ sym (take-zip p (take p v) x)
  where
    front : (b z : List ℕ) → p ≤ length b → p ≤ length z → take p (paste b 0 z p) ≡ take p z
    front b z hb hz = ap (λ (n : ℕ). take n (paste b 0 z p)) (sym (zero-add p)) ∙ take-paste b 0 z p (omega arith) hz
