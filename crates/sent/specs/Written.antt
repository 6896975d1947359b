-- What the base writes for a group over a store that holds its packets is the sum of these packets, taken one after the other.
use Rattle.std.specs.Prelude.{◌≡◌, List, ℕ, ◌+◌, ◌*◌, ◌<◌}
use Rattle.sequence.specs.Wrap.{member}
use Rattle.rtp.specs.Fec.{offset_of, na_of}
use Rattle.window.specs.declared.Window.{Window}
use Rattle.window.specs.Limits.{width}
use Rattle.window.specs.Store.{Store}
use Rattle.window.specs.Group.{position}
use Rattle.calls.specs.Content.{content_at}
use Rattle.calls.specs.Accept.{content_of}

-- a store holds the packets of a group: member j is packet start + j * Offset of those that a sender took
abbrev pub Holds : (w : Window) (s : Store) (stream snbase start : ℕ) (datagrams : ℕ → List ℕ) → Type 0
Holds w s stream snbase start g =
    (j : ℕ) → j < na_of stream w.l w.d
    → content_at w s (position w (member width snbase (offset_of stream w.l) j)) ≡ content_of w.p (g (start + j * offset_of stream w.l))
