-- What is known where no refusal of a call applied, by name: one record a call. A refusal more is a field more, and moves no other.
use Rattle.std.specs.Prelude.{◌≡◌, true, false, List, ℕ, ◌+◌, ◌<◌, ◌≤◌, length, drop}
use Rattle.sequence.specs.Lists.{up_to, any}
use Rattle.rtp.specs.Rtp.{rtp_header_size, sequence_number}
use Rattle.rtp.specs.Fec.{parity_header_size, snbase}
use Rattle.rtp.specs.Faults.{no_row}
use Rattle.rtp.specs.Length.{good_length}
use Rattle.window.specs.declared.Window.{Window}
use Rattle.window.specs.Limits.{least_missing, rows, parity_room}
use Rattle.window.specs.Store.{Store}
use Rattle.window.specs.Group.{position, group, inside, is_missing, missing}
use Rattle.calls.specs.Content.{same_recovery, recovery_over}
use Rattle.calls.specs.Accept.{recovery_of}
use Rattle.calls.specs.Call.{holds}
use Rattle.calls.specs.Standing.{Standing}

-- no refusal of a media offer applied
pub record MediaPassed (w : Window) (g : List ℕ) (s : Store) : Type 0 where
  pub standing : Standing w s 0 0
  pub size : good_length w.p (length (drop rtp_header_size g)) ≡ true
  pub in_window : position w (sequence_number g) < w.n
  pub new : is_missing s.marks (position w (sequence_number g)) ≡ true

-- no refusal of a parity offer on the port of a stream applied
pub record ParityPassed (w : Window) (stream : ℕ) (g : List ℕ) (s : Store) : Type 0 where
  pub standing : Standing w s 0 0
  pub size : good_length w.p (length (drop parity_header_size g)) ≡ true
  pub permitted : no_row stream w.l ≡ false
  pub in_window : inside w stream (snbase g) ≡ true
  pub new : any (holds w s stream (snbase g)) (up_to (rows w)) ≡ false
  pub agrees : any (is_missing s.marks) (group w stream (snbase g)) ≡ false → same_recovery (recovery_over w s (group w stream (snbase g))) (recovery_of w.p g) ≡ true
  pub has_room : least_missing ≤ length (missing s.marks (group w stream (snbase g))) → w.in_use < parity_room w

-- no refusal of reading out a number applied
pub record ReadPassed (w : Window) (number : ℕ) (s : Store) (out : List ℕ) : Type 0 where
  pub standing : Standing w s (length out) (rtp_header_size + w.p)
  pub in_window : position w number < w.n
  pub present : is_missing s.marks (position w number) ≡ false

-- no refusal of writing the parity of a group applied
pub record WritePassed (w : Window) (stream snbase : ℕ) (s : Store) (out : List ℕ) : Type 0 where
  pub standing : Standing w s (length out) (parity_header_size + w.p)
  pub permitted : no_row stream w.l ≡ false
  pub in_window : inside w stream snbase ≡ true
  pub whole : any (is_missing s.marks) (group w stream snbase) ≡ false
