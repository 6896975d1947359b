-- The lent store as the theory of rebuilding sees it: a slot for each position, and the checks in hand; and what a store in order satisfies.
use Rattle.std.proofs.Math.Path.{◌≡◌}
use Rattle.std.specs.Prelude.{◌&&◌, ℕ, ◌^◌, ◌<◌, ◌≤◌, length, get_or, ltb}
use Rattle.std.proofs.Math.Bool.{true, false, not, cond}
use Rattle.std.proofs.Math.Option.{Option, none, some}
use mathlib.Core.List.{List}
use Rattle.sequence.specs.Lists.{up_to, count}
use Rattle.rtp.specs.Faults.{no_row}
use Rattle.rtp.specs.Length.{good_length}
use Rattle.window.specs.declared.Window.{Window}
use Rattle.window.specs.Limits.{width, rows}
use Rattle.window.specs.Bounds.{SetUp, Sized}
use Rattle.window.specs.Store.{Store, length_at, record_at}
use Rattle.window.specs.Group.{group, inside, is_missing}
use Rattle.window.specs.Order.{is_present, is_in_use, missing_at}
use Rattle.calls.specs.Content.{Recovery, content_at, recovery_at, fits}
use Rattle.xor.specs.Laws.{packet}
use Rattle.peel.specs.Peel.{Code, View}
use Rattle.guarantee.specs.Packets.{Packet, xored, zeros, packet_of, content_from}

-- ---- a window within its limits, and the groups in it
-- a window value that refusals 1 to 3 let pass, with a base of 16 bits
pub record Limits (w : Window) : Type 0 where
  pub based : w.base < 2 ^ width
  pub set_up : SetUp w

-- the group of a check, which is named by its stream and its SNBase
abbrev pub group_of : Window → ℕ × ℕ → List ℕ
group_of w k = group w k.0 k.1

-- the parity of a window, as the theory has it
abbrev pub code : Window → Code (ℕ × ℕ) Recovery Packet
code w =
    record {
      group = group_of w;
      value = λ v. packet_of v.content;
      fits = λ v x. fits w v (content_from w.p x);
      xor = xored;
      zeros = zeros;
      laws = packet;
    }

-- the check that a record names
abbrev pub check_at : Store → ℕ → ℕ × ℕ
check_at s r = ((record_at s r).stream, (record_at s r).snbase)

-- a check that a record may name: a column, or a row where rows are permitted, that lies in the window
pub record Shaped (w : Window) (k : ℕ × ℕ) : Type 0 where
  pub known : k.0 ≤ 1
  pub rows : no_row k.0 w.l ≡ false
  pub within : inside w k.0 k.1 ≡ true

-- ---- the view
-- the packet kept at a position
abbrev pub packet_at : Window → Store → ℕ → Packet
packet_at w s i = packet_of (content_at w s i)

-- a slot of the window: the packet where its mark is not 0
unfoldable pub slot_at : Window → Store → ℕ → Option Packet
slot_at w s i = cond (ltb i w.n && not (is_missing s.marks i)) (some (packet_at w s i)) none

-- a check in hand: a record in use that names it and holds its recovery
pub record Held (w : Window) (s : Store) (k : ℕ × ℕ) (v : Recovery) : Type 0 where
  pub at : ℕ
  pub below : at < rows w
  pub used : is_in_use w s at ≡ true
  pub names : check_at s at ≡ k
  pub carries : recovery_at w s at ≡ v

-- the store as the theory sees it
abbrev pub view : Window → Store → View (ℕ × ℕ) Recovery Packet
view w s = record { slot = slot_at w s; held = Held w s }

-- ---- what a store in order satisfies
-- the store is in order, but for how many members of each check are missing; a and u are the counts of the window value
pub record Good (w : Window) (a u : ℕ) (s : Store) : Type 0 where
  pub fits : Sized w s
  pub mark : (i : ℕ) → i < w.n → get_or s.marks i 0 ≤ 1
  pub long : (i : ℕ) → i < w.n → is_present s.marks i ≡ true → good_length w.p (length_at s i) ≡ true
  pub good_use_mark : (r : ℕ) → r < rows w → (record_at s r).in_use ≤ 1
  pub shaped : (r : ℕ) → r < rows w → is_in_use w s r ≡ true → Shaped w (check_at s r)
  pub sized : (r : ℕ) → r < rows w → is_in_use w s r ≡ true → good_length w.p (record_at s r).payload_length ≡ true
  pub apart : (q r : ℕ) → q < rows w → r < rows w → is_in_use w s q ≡ true → is_in_use w s r ≡ true → check_at s q ≡ check_at s r → q ≡ r
  pub presents : a ≡ count (is_present s.marks) (up_to w.n)
  pub in_use : u ≡ count (is_in_use w s) (up_to (rows w))

-- of every check in hand at least m members are missing
pub record Missing (m : ℕ) (w : Window) (s : Store) : Type 0 where
  pub least : (r : ℕ) → r < rows w → is_in_use w s r ≡ true → m ≤ length (missing_at w s r)
