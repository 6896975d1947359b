-- How a hand of all records has room; and how a call ends over a table that a hand goes back into. Assumes nothing.
use Rattle.std.proofs.Common.{◌≡◌, refl, Option, Some, None, IfNone, List, ℕ, ◌≤◌, length, arith}
use Rattle.window.specs.declared.Record.{Record}
use Rattle.window.specs.Store.{stored}
use Rattle.calls.specs.Move.{Moved, outcome_of}
use Rattle.table.specs.Gather.{gathered, gathered-length}
use Rattle.face.specs.declared.Reply.{Reply}
use Rattle.face.specs.Reply.{Replied, replied, carried}
use Rattle.face.specs.Done.{reached}

-- what holds where there is none, where there is none
pub where_none : {P : Type 0} (o : Option ℕ) → ((m : ℕ) → o ≡ Some m → ⊥) → IfNone o P → P
where_none None h p = p
where_none (Some m) h p = absurd (h m refl)

-- no more are gathered than a window may have
pub never_more : (k : ℕ) (t : List Record) → 129 ≤ length (gathered (reached (length t) k) t) → ⊥
never_more k t h = omega (arith, h, gathered-length (reached (length t) k) t)

pub ends_as : (done : Replied) (reply : Reply) (media timestamps lengths marks parity : List ℕ) (t' t : List Record) → t ≡ t' → record { reply = reply; store = stored media timestamps lengths marks parity t' } ≡ done → record { reply = reply; store = stored media timestamps lengths marks parity t } ≡ done
ends_as done reply media timestamps lengths marks parity t' t e h = rw e h

pub ends_with : (made : Moved) (reply : Reply) (media timestamps lengths marks parity : List ℕ) (t' t : List Record) → t ≡ t' → record { reply = reply; store = stored media timestamps lengths marks parity t' } ≡ replied (outcome_of made) → (out sizes : List ℕ) → out ≡ made.out → sizes ≡ made.sizes
    → record { reply = reply; store = stored media timestamps lengths marks parity t; out = out; sizes = sizes } ≡ carried made
ends_with made reply media timestamps lengths marks parity t' t e h out sizes eo es =
    let q = ends_as (replied (outcome_of made)) reply media timestamps lengths marks parity t' t e h in
    λ i. record { reply = (q i).reply; store = (q i).store; out = eo i; sizes = es i }
