-- When a sender's parity goes out (02, request 4; 004, annexes A and B). Media packets are counted from 0, the first that the sender takes;
-- L columns and D rows are a matrix. A column's group recurs every matrix: one cycle of that column.
use Rattle.std.specs.Prelude.{cond, ◌&&◌, ℕ, ◌+◌, ◌*◌, ◌-◌, ◌/◌, ◌%◌, eqb, leb}
use Rattle.std.proofs.Math.Option.{Option, none, some}
pub use Rattle.schedule.specs.declared.Arrangement.{Arrangement}
pub use Rattle.schedule.specs.declared.Arrangement.TheVariants.{Aligned, Staggered}

-- the arrangement that a number names: 0 aligned, any other staggered
abbrev pub named : ℕ → Arrangement
named number = cond (eqb number 0) Aligned Staggered

-- a column's group: which column, from 0, and in its how manieth cycle, from 0
pub record Cycle : Type 0 where
  pub column : ℕ
  pub cycle : ℕ

-- the line of a matrix on which a column starts: its first, or staggered one further with each column, up to D
unfoldable pub shift : Arrangement → (D k : ℕ) → ℕ
shift Aligned D k = 0
shift Staggered D k = k % D

-- the packet with which a cycle starts; its members are the D packets start + j * L
unfoldable pub start : Arrangement → (L D : ℕ) → Cycle → ℕ
start a L D c = c.column + L * shift a D c.column + c.cycle * (L * D)

-- the packet with which it goes out: of an aligned matrix column k goes out k * D packets after the next matrix's first, a staggered column L
-- packets after its last member
unfoldable pub due : Arrangement → (L D : ℕ) → Cycle → ℕ
due Aligned L D c = (c.cycle + 1) * (L * D) + c.column * D
due Staggered L D c = start Staggered L D c + (D - 1) * L + L

-- the column whose turn it is with packet i, if any
unfoldable pub turn : Arrangement → (L D i : ℕ) → ℕ
turn Aligned L D i = i % (L * D) / D
turn Staggered L D i = i % L

-- the one cycle that can be due with packet i
unfoldable pub leaving : Arrangement → (L D i : ℕ) → Cycle
leaving a L D i = record { column = turn a L D i; cycle = i / (L * D) - 1 }

-- the column that goes out with packet i: the cycle that is due with it, if there is one
unfoldable pub column_due : Arrangement → (L D i : ℕ) → Option Cycle
column_due a L D i = cond (eqb (due a L D (leaving a L D i)) i) (some (leaving a L D i)) none

-- the row that goes out with packet i, its last member, by the packet with which it starts: where L is at least 4
unfoldable pub row_due : (L i : ℕ) → Option ℕ
row_due L i = cond (leb 4 L && eqb (i % L + 1) L) (some (i / L * L)) none

-- the cycle that packet i belongs to; staggered columns leave some of the first matrix's packets out, and these get the cycle that is to come
unfoldable pub taking : Arrangement → (L D i : ℕ) → Cycle
taking a L D i = record { column = i % L; cycle = (i / L - shift a D (i % L)) / D }

-- ---- what a sender keeps

-- where the sum of a cycle stands: a column has two slots, its cycles in turn
unfoldable pub slot : (L : ℕ) → Cycle → ℕ
slot L c = c.column + L * (c.cycle % 2)

-- the slot of the running row, behind those of the columns
abbrev pub row_slot : (L : ℕ) → ℕ
row_slot L = 2 * L

-- to how many matrices the counter of a sender counts
abbrev pub matrices : ℕ
matrices = 3

-- the counter after p, where a matrix has N packets: it counts to three matrices and falls back by two, so that it stays past the first one
unfoldable pub onward : (N p : ℕ) → ℕ
onward N p = cond (eqb (p + 1) (matrices * N)) N (p + 1)
