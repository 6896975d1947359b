-- The hand that is gathered of a table. Assumes nothing.
use Rattle.std.specs.Prelude.{◌≡◌, refl, Bool, true, false, cond, List, [], ◌∷◌, ◌++◌, ℕ, zero, suc, ◌+◌, ◌≤◌, eqb, ltb, length, get_or, set, take, drop, replicate}
use Rattle.std.proofs.Common.{ap, ◌∙◌, arith, eqb-true}
use Rattle.std.proofs.lemmas.List.{set-get_or}
use Rattle.window.specs.declared.Record.{Record}
use Rattle.window.specs.Record.{blank}
use Rattle.table.specs.View.{Row, scatter}
use Rattle.table.specs.Apart.{Free, Apart, done, free, held, Within, within, apart-length, Fits}

-- one record more: it is held where its mark is not 0
abbrev pub more : List Row → ℕ → Record → List Row
more hs r v = cond (eqb v.in_use 0) hs (hs ++ (record { slot = r; note = 0; it = v } ∷ []))

-- the records among the first k of a table whose mark is not 0, each with note 0
unfoldable pub gathered : ℕ → List Record → List Row
gathered zero t = []
gathered (suc r) t = more (gathered r t) r (get_or t r blank)

module _ {t : List Record} where
  -- one free record more
  free-last : {k q : ℕ} {hs : List Row} → Apart t k q hs → Free t k → Apart t (suc k) q hs
  free-last done f = free f done
  free-last (free g d) f = free g (free-last d f)
  free-last (held hs c v d) f = held _ c v (free-last d f)

  -- one held record more
  held-last : {k q : ℕ} {hs : List Row} → Apart t k q hs → (v : Record) → Apart t (suc k) q (hs ++ (record { slot = k; note = 0; it = v } ∷ []))
  held-last done v = held _ 0 v done
  held-last (free g d) v = free g (held-last d v)
  held-last (held hs c w d) v = held _ c w (held-last d v)

-- what is gathered of a table is apart from it
pub gathered-apart : (k : ℕ) (t : List Record) → Apart t k 0 (gathered k t)
unfolding gathered
gathered-apart zero t = done
gathered-apart (suc r) t = go (eqb (get_or t r blank).in_use 0) refl (gathered-apart r t)
  where
    go : (b : Bool) → eqb (get_or t r blank).in_use 0 ≡ b → Apart t r 0 (gathered r t) → Apart t (suc r) 0 (cond b (gathered r t) (gathered r t ++ (record { slot = r; note = 0; it = get_or t r blank } ∷ [])))
    go true e d = free-last d (eqb-true (get_or t r blank).in_use 0 e)
    go false e d = held-last d (get_or t r blank)

-- the last row goes into the table first
scatter_last : (hs : List Row) (h : Row) (t : List Record) → scatter (hs ++ (h ∷ [])) t ≡ scatter hs (set t h.slot h.it)
unfolding scatter
scatter_last [] h t = refl
scatter_last (g ∷ hs) h t = ap (λ (u : List Record). set u g.slot g.it) (scatter_last hs h t)

-- scattered over the table that it is of, it changes nothing
pub gathered-scatter : (k : ℕ) (t : List Record) → scatter (gathered k t) t ≡ t
unfolding scatter gathered
gathered-scatter zero t = refl
gathered-scatter (suc r) t = go (eqb (get_or t r blank).in_use 0) (gathered-scatter r t)
  where
    go : (b : Bool) → scatter (gathered r t) t ≡ t → scatter (cond b (gathered r t) (gathered r t ++ (record { slot = r; note = 0; it = get_or t r blank } ∷ []))) t ≡ t
    go true e = e
    go false e = scatter_last (gathered r t) (record { slot = r; note = 0; it = get_or t r blank }) t ∙ ap (scatter (gathered r t)) (set-get_or t r blank) ∙ e

-- every slot that is gathered is below k
pub gathered-within : (k : ℕ) (t : List Record) → Within k (gathered k t)
gathered-within k t = within (gathered-apart k t)

-- at most k rows are gathered
pub gathered-length : (k : ℕ) (t : List Record) → length (gathered k t) ≤ k
gathered-length k t = omega (arith, apart-length (gathered-apart k t))

-- what is gathered of a table fits it
pub gathered-fits : (k : ℕ) (t : List Record) → k ≤ length t → Fits t k (gathered k t)
gathered-fits k t l = record { apart = gathered-apart k t; enough = l }

-- a table whose first k records are free
abbrev pub wiped : ℕ → List Record → List Record
wiped k t = replicate k blank ++ drop k t
