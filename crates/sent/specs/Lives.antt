-- What holds of a sender from its opening on, offer after offer.
use Rattle.std.specs.Prelude.{◌≡◌, List, ℕ, ◌%◌, ◌^◌, ◌<◌, length}
use Rattle.answer.specs.First.{first}
use Rattle.window.specs.Limits.{width}
use Rattle.calls.specs.Content.{Recovery}
use Rattle.sender.specs.declared.Sender.{Sender}
use Rattle.sender.specs.Sums.{Room, sum_at, alone, together}
use Rattle.sender.specs.Call.{arrangement_of, set_up_tests}
use Rattle.sender.specs.Ready.{Ready}
use Rattle.sent.specs.Kept.{Kept}
use Rattle.sent.specs.Room.{empty, Sized, together-laws, alone-sized}
use Rattle.sent.specs.Life.{datagram_at}

-- the packets of a sequence of datagrams, and that they have p bytes
abbrev pub packets : (p : ℕ) → (ℕ → List ℕ) → ℕ → Recovery
packets p g j = alone p (g j)

pub packets-sized : (p : ℕ) (g : ℕ → List ℕ) (j : ℕ) → Sized p (packets p g j)
packets-sized p g j = alone-sized p (g j)

-- a sequence that goes on from a list
abbrev pub GoesOn : (ℕ → List ℕ) → List (List ℕ) → Type 0
GoesOn g gs = (j : ℕ) → j < length gs → g j ≡ datagram_at gs j

-- what is kept, of a sender that has taken a list of datagrams, whatever comes after them
abbrev pub KeptOf : Sender → Room → (ℕ → List ℕ) → (i : ℕ) → Type 0
KeptOf s r g i =
    Kept together (empty s.p) (Sized s.p) (together-laws s.p) (packets s.p g) (packets-sized s.p g) (arrangement_of s) s.l s.d i s.at (sum_at s.p r)

-- a sender that has taken some datagrams
pub record Lives (s : Sender) (r : Room) (gs : List (List ℕ)) : Type 0 where
  pub set_up : first (set_up_tests s) ≡ 0
  pub taken : s.taken ≡ length gs % 2 ^ width
  pub ready : Ready s r
  pub kept : (g : ℕ → List ℕ) → GoesOn g gs → KeptOf s r g (length gs)
