-- A packet as the theory sees it: the cells of its content one after the other, zero past the end.
use Rattle.std.specs.Prelude.{◌≡◌, List, [], ◌∷◌, ℕ, zero, suc, length, get_or}
use Rattle.std.specs.Int.Bits.{bit_xor}
use Rattle.calls.specs.Content.{Content}

-- the cells of a content: its timestamp and its length, then its payload byte by byte
abbrev pub cells : Content → List ℕ
cells c = c.timestamp ∷ c.length ∷ c.payload

-- a content of p payload bytes
abbrev pub Whole : ℕ → Content → Type 0
Whole p c = length c.payload ≡ p

-- a packet: a number at every place
abbrev pub Packet : Type 0
Packet = ℕ → ℕ

-- the exclusive-or of two packets, place by place
abbrev pub xored : Packet → Packet → Packet
xored = λ (x y : ℕ → ℕ) (n : ℕ). bit_xor (x n) (y n)

-- the packet of zeros
abbrev pub zeros : Packet
zeros = λ n. 0

-- the packet of a content: its cells
abbrev pub packet_of : Content → Packet
packet_of c j = get_or (cells c) j 0

-- the first p places of a packet
abbrev pub first_cells : (p : ℕ) → Packet → List ℕ
first_cells zero x = []
first_cells (suc p) x = x 0 ∷ first_cells p (λ j. x (suc j))

-- the content of p bytes that a packet is of
abbrev pub content_from : (p : ℕ) → Packet → Content
content_from p x = record { timestamp = x 0; length = x 1; payload = first_cells p (λ j. x (suc (suc j))) }
