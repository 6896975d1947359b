-- Facts about the lists of sequence's Lists.antt: membership, counting, and that different things need as many places.
use Rattle.std.specs.Prelude.{◌≡◌, ◌≢◌, suc, length}
use mathlib.Core.List.{List, Memᴰ}

-- ---- different things need as many places
-- an element of a list, and the list without it
pub record Out {A : Type 0} (x : A) (l : List A) : Type 0 where
  pub rest : List A
  pub shorter : length l ≡ suc (length rest)
  pub others : (y : A) → y ≢ x → Memᴰ y l → Memᴰ y rest
