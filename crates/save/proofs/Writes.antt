-- Writing a file, one way through the definition at a time. Assumes nothing.
use Rattle.std.proofs.Common.{◌≡◌, refl, Bool, cond, Some, None, sym, ap, ◌∙◌, true, false, List, ◌++◌, ℕ, ◌+◌, ◌≤◌, ◌<◌, arith, lt-ltb, le-ltb, length, take, drop}
use Rattle.std.proofs.Math.Seq.{sets, paste, take-length}
use Rattle.answer.specs.First.{first}
use Rattle.xor.specs.Laid.{laid}
use Rattle.capture.specs.Content.{header, table_end, file_of}
use Rattle.capture.specs.Calls.{Parts, content_of_parts, entries_fit, numbers_fit, lines, Filed, wrote}
use Rattle.capture.specs.Parts.{front_of}
use Rattle.capture.proofs.Parts.{fit, length_front, file_of-parts, length_of_parts}
use Rattle.save.specs.declared.SetUp.{SetUp}
use Rattle.save.specs.SetUp.{set_up_of}
use Rattle.save.proofs.Lay.{sets_append}

-- the numbers of a set-up, where they fit their fields and where they do not
module _ (base l d p n k : ℕ) where
  pub set_up-some : (u : SetUp) → Some u ≡ set_up_of base l d p n k → (numbers_fit l d p base n k ≡ true) × (u ≡ record { base = base; l = l; d = d; p = p; n = n; k = k })
  set_up-some u e = go (numbers_fit l d p base n k) refl
    where
      go : (b : Bool) → numbers_fit l d p base n k ≡ b → (b ≡ true) × (u ≡ record { base = base; l = l; d = d; p = p; n = n; k = k })
      go true f = let z = e ∙ ap (λ (t : Bool). cond t (Some (record { base = base; l = l; d = d; p = p; n = n; k = k })) None) f in (refl, cc)
      go false f = let z = e ∙ ap (λ (t : Bool). cond t (Some (record { base = base; l = l; d = d; p = p; n = n; k = k })) None) f in absurd (cc)

  pub set_up-none : None ≡ set_up_of base l d p n k → numbers_fit l d p base n k ≡ false
  set_up-none e = go (numbers_fit l d p base n k) refl
    where
      go : (b : Bool) → numbers_fit l d p base n k ≡ b → b ≡ false
      go true f = let z = e ∙ ap (λ (t : Bool). cond t (Some (record { base = base; l = l; d = d; p = p; n = n; k = k })) None) f in absurd (cc)
      go false f = refl

-- a refusal leaves the output as it was
abbrev no : (number : ℕ) → List ℕ → Filed
no number out = record { written = record { number = number; count = 0 }; out = out }

-- what is laid down
abbrev done : Parts → List ℕ → List ℕ
done x out =
    sets (sets (paste out (table_end (length x.ports)) x.bodies (length x.bodies)) 0
    (header (length x.ports) x.l x.d x.p x.base x.n x.k)) 12 (lines (table_end (length x.ports)) x.ports x.lengths)

module _ (x : Parts) (out : List ℕ) where
  pub not-entries : entries_fit x.ports x.lengths (length x.bodies) ≡ false → no 21 out ≡ wrote x out
  unfolding wrote first
  not-entries e = sym (rw e)

  module _ (e : entries_fit x.ports x.lengths (length x.bodies) ≡ true) where
    pub not_numbers : numbers_fit x.l x.d x.p x.base x.n x.k ≡ false → no 21 out ≡ wrote x out
    unfolding wrote first
    not_numbers f = sym (rw (e, f))

    module _ (f : numbers_fit x.l x.d x.p x.base x.n x.k ≡ true) where
      size : length (file_of (content_of_parts x)) ≡ table_end (length x.ports) + length x.bodies
      size = length_of_parts x (fit x.ports x.lengths (length x.bodies) e)

      pub too_short : length out < table_end (length x.ports) + length x.bodies → no 4 out ≡ wrote x out
      unfolding wrote first
      too_short h = sym (rw (e, f, size, lt-ltb (length out) (table_end (length x.ports) + length x.bodies) h))

      laid_down : table_end (length x.ports) + length x.bodies ≤ length out → done x out ≡ file_of (content_of_parts x) ++ drop (length (file_of (content_of_parts x))) out
      laid_down h =
          let g = fit x.ports x.lengths (length x.bodies) e in
          let hd = header (length x.ports) x.l x.d x.p x.base x.n x.k in
          let start = table_end (length x.ports) in
          let is : file_of (content_of_parts x) ≡ front_of x ++ take (length x.bodies) x.bodies =
          file_of-parts x g ∙ ap (λ (b : List ℕ). front_of x ++ b) (sym (take-length x.bodies)) in
          sym (sets_append hd (paste out start x.bodies (length x.bodies)) 0 (lines start x.ports x.lengths))
          ∙ laid (front_of x) x.bodies out start (length x.bodies) (length_front x g.same) h (omega arith)
          ∙ ap (λ (l : List ℕ). l ++ drop (length l) out) (sym is)

      pub was-written : (after : List ℕ) → table_end (length x.ports) + length x.bodies ≤ length out → after ≡ done x out
          → ◌≡◌ {A = Filed} (record { written = record { number = 0; count = table_end (length x.ports) + length x.bodies }; out = after }) (wrote x out)
      unfolding wrote first
      was-written after h q =
          rw (q ∙ laid_down h)
          (sym (rw (e, f, size, le-ltb (length out) (table_end (length x.ports) + length x.bodies) h)))
