-- Demand 2 (document 00) for a reader, whatever traffic there was: where a packet that a call leaves present comes from, and what is
-- written over an unaltered store. The statement alone; Made.antt proves it. That after each accepted packet no parity in hand has just
-- one of its group missing is in Waiting.antt.
use Rattle.std.specs.Prelude.{◌≡◌, true, ℕ, ◌^◌, ◌<◌}
use mathlib.Core.List.{List, ◌∷◌, ◌++◌, Memᴰ}
use Rattle.answer.specs.declared.Answer.TheVariants.{Done}
use Rattle.rtp.specs.Rtp.{sequence_number}
use Rattle.rtp.specs.Fec.{column, row, snbase}
use Rattle.window.specs.declared.Window.{Window}
use Rattle.window.specs.Limits.{rows}
use Rattle.window.specs.Store.{Store, record_at}
use Rattle.window.specs.Group.{position, group}
use Rattle.window.specs.Order.{is_in_use}
use Rattle.calls.specs.Content.{Content, xor_content, xor_contents, content_at, Recovery, recovery_at, fits}
use Rattle.calls.specs.Datagram.{Outer}
use Rattle.calls.specs.Accept.{content_of, recovery_of}
use Rattle.calls.specs.Call.{Written, over, read_out, wrote_parity}
use Rattle.guarantee.specs.Demand3.{mediaPort, columnPort, rowPort, Offer, offered, Stretch, UnalteredMedia, UnalteredParity, mark_at}
use Rattle.guarantee.specs.Start.{Holds}

-- ---- "what is rebuilt is the exclusive-or the Code prescribes, over what is held, with the number of the one missing"

-- a parity packet that an offer o to a store may rebuild by, with its stream, SNBase and recovery: one in hand, or the one offered
pub data Usable (w : Window) (o : Offer) (s : Store) : (stream snbase : ℕ) → Recovery → Type 0 where
  in_hand : (r : ℕ) → r < rows w → is_in_use w s r ≡ true → Usable w o s (record_at s r).stream (record_at s r).snbase (recovery_at w s r)
  column-offered : o.port ≡ columnPort → Usable w o s column (snbase o.datagram) (recovery_of w.p o.datagram)
  row-offered : o.port ≡ rowPort → Usable w o s row (snbase o.datagram) (recovery_of w.p o.datagram)

-- the exclusive-or of what a parity packet carries and of the others of its group
abbrev pub rebuilt_by : Window → Recovery → (others : ℕ → Content) → List ℕ → Content
rebuilt_by w recovery others g = xor_content recovery.content (xor_contents w.p others g)

-- what may stand at a position after an offer o to a store: what stood there, the media packet offered, or the exclusive-or of such a
-- parity packet and of the others of its group, each of which may stand at its position before that, where it fits and so is not spoilt
pub data Due (w : Window) (o : Offer) (s : Store) : ℕ → Content → Type 0 where
  stood : (i : ℕ) → i < w.n → mark_at s i ≡ 1 → Due w o s i (content_at w s i)
  arrived : o.port ≡ mediaPort → Due w o s (position w (sequence_number o.datagram)) (content_of w.p o.datagram)
  rebuilt : (stream snbase : ℕ) (recovery : Recovery) (others : ℕ → Content) (i : ℕ) (before after : List ℕ) → Usable w o s stream snbase recovery
      → group w stream snbase ≡ before ++ (i ∷ after) → ((j : ℕ) → Memᴰ j (before ++ after) → Due w o s j (others j))
      → fits w recovery (rebuilt_by w recovery others (before ++ after)) ≡ true → Due w o s i (rebuilt_by w recovery others (before ++ after))

-- every packet that is present after an offer, accepted or refused, unaltered or not, is due
abbrev pub ClaimDue : Type 0
ClaimDue =
    (o : Offer) (w : Window) (s : Store)
    → w.base < 2 ^ 16
    → (i : ℕ) → i < w.n
    → mark_at (offered o w s).store i ≡ 1
    → Due w o s i (content_at w (offered o w s).store i)

-- and one that was present stays as it was
abbrev pub ClaimStays : Type 0
ClaimStays =
    (o : Offer) (w : Window) (s : Store)
    → w.base < 2 ^ 16
    → (i : ℕ) → i < w.n
    → mark_at s i ≡ 1
    → (mark_at (offered o w s).store i ≡ 1) × (content_at w (offered o w s).store i ≡ content_at w s i)

-- ---- "parity packets we send are byte for byte what the Code defines for their group"

-- a datagram for which something holds stands at the front of the output, the rest of which is as it was
pub record Wrote (P : List ℕ → Type 0) (out : List ℕ) (x : Written) : Type 0 where
  pub datagram : List ℕ
  pub is : P datagram
  pub written : x.out ≡ over datagram out

-- reading out of an unaltered store writes an unaltered media packet
abbrev pub ClaimRead : Type 0
ClaimRead =
    (w : Window) (t : Stretch) (s : Store) (number count : ℕ) (out : List ℕ)
    → w.base < 2 ^ 16
    → w.ssrc < 2 ^ 32
    → number < 2 ^ 16
    → Holds w t s
    → (read_out w number s out).answer ≡ Done count 0
    → Wrote (UnalteredMedia w t) out (read_out w number s out)

-- writing the parity of a group over it writes an unaltered parity packet
abbrev pub ClaimWritten : Type 0
ClaimWritten =
    (w : Window) (t : Stretch) (s : Store) (stream snbase count : ℕ) (o : Outer) (out : List ℕ)
    → snbase < 2 ^ 16
    → o.sequence < 2 ^ 16
    → o.timestamp < 2 ^ 32
    → o.ssrc < 2 ^ 32
    → Holds w t s
    → (wrote_parity stream w snbase o s out).answer ≡ Done count 0
    → Wrote (UnalteredParity w t stream) out (wrote_parity stream w snbase o s out)
