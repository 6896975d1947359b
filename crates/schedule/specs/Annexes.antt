-- 004's annexes A and B at L = 4, D = 5, by computation.
use Rattle.std.specs.Prelude.{List, [], ◌∷◌, ◌++◌, ℕ, zero, suc, ◌+◌}
use Rattle.std.proofs.Math.Option.{Option, none, some}
use Rattle.schedule.specs.Schedule.{Arrangement, Cycle, start, column_due}

-- n numbers from s on, each t after the one before
abbrev pub members : (s t n : ℕ) → List ℕ
members s t zero = []
members s t (suc n) = s ∷ members (s + t) t n

-- a packet with which something goes out, with the start of what does
unfoldable pub sent_with : (i : ℕ) → Option ℕ → List (ℕ × ℕ)
sent_with i none = []
sent_with i (some s) = (i, s) ∷ []

unfoldable pub start_of : Arrangement → (L D : ℕ) → Option Cycle → Option ℕ
start_of a L D none = none
start_of a L D (some c) = some (start a L D c)

-- those of the packets below n
unfoldable pub sent_below : (ℕ → Option ℕ) → (n : ℕ) → List (ℕ × ℕ)
sent_below f zero = []
sent_below f (suc n) = sent_below f n ++ sent_with n (f n)

unfoldable pub columns_below : Arrangement → (L D n : ℕ) → List (ℕ × ℕ)
columns_below a L D n = sent_below (λ i. start_of a L D (column_due a L D i)) n
