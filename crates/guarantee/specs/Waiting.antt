-- What every accepted offer leaves, unaltered or not (01, "Taking a packet in"; 00, demand 2): a store in order, in which every parity
-- packet in hand covers at least two missing packets (least_missing); and a count that is the rise in packets present, less the media packet
-- itself, whatever was found spoilt.
use Rattle.std.specs.Prelude.{◌≡◌, true, false, ℕ, ◌+◌, ◌<◌, ◌≤◌, length}
use Rattle.window.specs.declared.Window.{Window}
use Rattle.window.specs.Limits.{least_missing, rows}
use Rattle.window.specs.Order.{is_in_use, missing_at, disorder}
use Rattle.calls.specs.Call.{Outcome}
use Rattle.guarantee.specs.Demand3.{Port, mediaPort, columnPort, rowPort}

-- the packet itself becomes present where it is media
abbrev pub itself : Port → ℕ
itself mediaPort = 1
itself columnPort = 0
itself rowPort = 0

-- what an accepted offer leaves
pub record Left (p : Port) (w : Window) (count : ℕ) (x : Outcome) : Type 0 where
  pub in_order : disorder x.window x.store ≡ false
  pub waits : (r : ℕ) → r < rows x.window → is_in_use x.window x.store r ≡ true → least_missing ≤ length (missing_at x.window x.store r)
  pub rise : x.window.present ≡ w.present + itself p + count
