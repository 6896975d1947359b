-- A packet as the theory sees it: the cells of its content one after the other, zero past the end.
use Rattle.std.specs.Prelude.{◌≡◌, refl, List, [], ◌∷◌, ℕ, zero, suc, length, get_or, replicate}
use Rattle.std.proofs.Common.{sym, ap, ◌∙◌, arith, ext_get_or}
use Rattle.std.proofs.Math.Path.{fun_ext}
use Rattle.std.proofs.lemmas.List.{length-replicate}
use Rattle.std.specs.Int.Bits.{bit_xor}
use Rattle.xor.specs.Xor.{zip_xor, length-zip}
use Rattle.peel.specs.Group.{total}
use Rattle.calls.specs.Content.{Content, xor_content, xor_contents}
use Rattle.guarantee.specs.Packets.{cells, Whole, Packet, xored, zeros, packet_of, first_cells, content_from}

-- two contents of p bytes are equal if their packets are
pub packet-content : {p : ℕ} (c e : Content) → Whole p c → Whole p e → packet_of c ≡ packet_of e → c ≡ e
packet-content c e hc he q =
    let l : length c.payload ≡ length e.payload = hc ∙ sym he in
    let z : c.timestamp ≡ e.timestamp = ap (λ (x : Packet). x 0) q in
    let n : c.length ≡ e.length = ap (λ (x : Packet). x 1) q in
    let y : c.payload ≡ e.payload = ext_get_or 0 c.payload e.payload l (λ j h. ap (λ (x : Packet). x (suc (suc j))) q) in
    λ k. record { timestamp = z k; length = n k; payload = y k }

-- it has p bytes
pub length-first : (p : ℕ) (x : Packet) → length (first_cells p x) ≡ p
length-first zero x = refl
length-first (suc p) x = ap suc (length-first p (λ j. x (suc j)))

-- a list has its own places
cells-from : (l : List ℕ) → first_cells (length l) (λ j. get_or l j 0) ≡ l
cells-from [] = refl
cells-from (b ∷ l) = ap (λ k. b ∷ k) (cells-from l)

-- a content is of its packet
pub content_from_lem : (p : ℕ) (c : Content) → Whole p c → content_from p (packet_of c) ≡ c
content_from_lem p c e = rw (← e) (ap (λ l. record { timestamp = c.timestamp; length = c.length; payload = l }) (cells-from c.payload))

-- a cell of an exclusive-or of lists of one length, also past the end
cell_zip : (a b : List ℕ) → length a ≡ length b → (j : ℕ) → get_or (zip_xor a b) j 0 ≡ bit_xor (get_or a j 0) (get_or b j 0)
cell_zip [] [] l j = refl
cell_zip [] (y ∷ b) l j = absurd (omega (arith, l))
cell_zip (x ∷ a) [] l j = absurd (omega (arith, l))
cell_zip (x ∷ a) (y ∷ b) l zero = refl
cell_zip (x ∷ a) (y ∷ b) l (suc j) = cell_zip a b (omega (arith, l)) j

-- the packet of an exclusive-or is the exclusive-or of the packets
pub packet-xor : {p : ℕ} (c e : Content) → Whole p c → Whole p e → packet_of (xor_content c e) ≡ xored (packet_of c) (packet_of e)
packet-xor c e hc he = fun_ext (cell_zip (cells c) (cells e) (ap (λ n. suc (suc n)) (hc ∙ sym he)))

-- and has as many bytes
pub whole-xor : {p : ℕ} (c e : Content) → Whole p c → Whole p e → Whole p (xor_content c e)
whole-xor c e hc he = length-zip c.payload e.payload (hc ∙ sym he) ∙ hc

-- a cell of zeros, also past the end
cell_zeros : (p j : ℕ) → ◌≡◌ {A = ℕ} (get_or (replicate p 0) j 0) 0
cell_zeros zero j = refl
cell_zeros (suc p) zero = refl
cell_zeros (suc p) (suc j) = cell_zeros p j

module _ (p : ℕ) (content : ℕ → Content) (whole : (j : ℕ) → Whole p (content j)) where
  -- so has the exclusive-or of a list of them
  pub whole_xors : (g : List ℕ) → Whole p (xor_contents p content g)
  whole_xors [] = length-replicate p 0
  whole_xors (j ∷ g) = whole-xor (content j) (xor_contents p content g) (whole j) (whole_xors g)

  -- the exclusive-or over a group is the theory's
  pub packet-total : (g : List ℕ) → packet_of (xor_contents p content g) ≡ total xored zeros (λ j. packet_of (content j)) g
  packet-total [] = fun_ext (cell_zeros (suc (suc p)))
  packet-total (j ∷ g) = packet-xor (content j) (xor_contents p content g) (whole j) (whole_xors g) ∙ ap (xored (packet_of (content j))) (packet-total g)
