-- The numbers of a set-up as the fields of a header have them.
use Rattle.std.specs.Prelude.{ℕ, cond, Option, Some, None}
use Rattle.capture.specs.Calls.{numbers_fit}
use Rattle.save.specs.declared.SetUp.{SetUp}

-- the numbers, where they fit their fields
abbrev pub set_up_of : (base l d p n k : ℕ) → Option SetUp
set_up_of base l d p n k = cond (numbers_fit l d p base n k) (Some (record { base = base; l = l; d = d; p = p; n = n; k = k })) None
