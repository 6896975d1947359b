-- A rebuild that is tried: the one missing packet of a group as a recovery gives it, and what is left of the store where it fits and where it does not.
use Rattle.std.specs.Prelude.{◌≡◌, Bool, true, false, List, ℕ, ◌*◌, set}
use Rattle.std.proofs.Math.Seq.{paste}
use Rattle.window.specs.declared.Window.{Window}
use Rattle.calls.specs.Content.{Content, Recovery, fits, number_over, payload_over}

-- a content xored with what is held of a group, over the parts of the store
abbrev pub given : (p : ℕ) → (media timestamps lengths marks group : List ℕ) → Content → Content
given p media timestamps lengths marks group c =
    record {
      timestamp = number_over timestamps marks group c.timestamp;
      length = number_over lengths marks group c.length;
      payload = payload_over p media lengths marks group c.payload;
    }

-- where it fits it stands at position i; where it does not, nothing has changed
pub record Tried (w : Window) (group : List ℕ) (i : ℕ) (recovery : Recovery) (r : Bool) (media timestamps lengths marks media' timestamps' lengths' marks' : List ℕ) : Type 0 where
  pub fit : r ≡ fits w recovery (given w.p media timestamps lengths marks group recovery.content)
  pub done : r ≡ true
      → (media' ≡ paste media (i * w.p) (given w.p media timestamps lengths marks group recovery.content).payload w.p)
      × (timestamps' ≡ set timestamps i (given w.p media timestamps lengths marks group recovery.content).timestamp)
      × (lengths' ≡ set lengths i (given w.p media timestamps lengths marks group recovery.content).length)
      × (marks' ≡ set marks i 1)
  pub same : r ≡ false → (media' ≡ media) × (timestamps' ≡ timestamps) × (lengths' ≡ lengths) × (marks' ≡ marks)
