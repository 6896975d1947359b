-- Limits of a window's set-up numbers: refusals 1 to 3 (01, "Setting up a window").
use Rattle.std.specs.Prelude.{Bool, not, ◌&&◌, ◌||◌, List, [], ◌∷◌, ℕ, ◌*◌, ◌/◌, ◌%◌, eqb, leb, ltb}
use Rattle.window.specs.declared.Window.{Window}

-- bits of a sequence number
abbrev pub width : ℕ
width = 16

-- most columns, and most rows, of a parity matrix
abbrev pub most_side : ℕ
most_side = 20

-- most packets of a parity matrix
abbrev pub most_matrix : ℕ
most_matrix = 100

-- most positions of a window
abbrev pub most_positions : ℕ
most_positions = 400

-- most records for parity in hand
abbrev pub most_records : ℕ
most_records = 128

-- more than a window's packets and records together
abbrev pub most_counted : ℕ
most_counted = 1000

-- least packets that a parity packet in hand waits for
abbrev pub least_missing : ℕ
least_missing = 2

-- how many records the lent table has: K
abbrev pub rows : Window → ℕ
rows w = w.k

-- how many parity packets may be in hand at once: K
abbrev pub parity_room : Window → ℕ
parity_room w = w.k

-- the in-use mark of this window's records: 1
abbrev pub use_mark : Window → ℕ
use_mark w = 1

-- 1: not 1 ≤ L ≤ 20, 4 ≤ D ≤ 20, L × D ≤ 100 (004, 4.5.3)
abbrev pub bad_profile : Window → Bool
bad_profile w = ltb w.l 1 || ltb most_side w.l || ltb w.d 4 || ltb most_side w.d || ltb most_matrix (w.l * w.d)

-- p bytes are k units, k from 1 to 7
abbrev pub one_to_seven : (unit p : ℕ) → Bool
one_to_seven unit p = eqb (p % unit) 0 && leb 1 (p / unit) && leb (p / unit) 7

-- 2: P not 1 to 7 transport stream packets, of 188 or of 204 bytes (004, 4.3 and 4.4)
abbrev pub bad_payload : Window → Bool
bad_payload w = not (one_to_seven 188 w.p || one_to_seven 204 w.p)

-- 3: not L × D ≤ n ≤ 400, 1 ≤ K ≤ 128
abbrev pub bad_room : Window → Bool
bad_room w = ltb w.n (w.l * w.d) || ltb most_positions w.n || ltb (rows w) 1 || ltb most_records (rows w)

-- what a made-up window value meets first
abbrev pub set_up_tests : Window → List (ℕ × Bool)
set_up_tests w = (1, bad_profile w) ∷ (2, bad_payload w) ∷ (3, bad_room w) ∷ []
