-- The content of a packet: what exclusive-or acts on (01, "Bytes on the wire"; 02, request 1).
use Rattle.std.specs.Prelude.{◌≡◌, refl, List, ℕ}
use Rattle.window.specs.declared.Window.{Window}
use Rattle.window.specs.Store.{Store}
use Rattle.calls.specs.Content.{Content, content_over, number_over, payload_over}

-- these are its cells
pub content-cells : (w : Window) (s : Store) (group : List ℕ) (c : Content)
    → content_over w s group c
    ≡ record {
      timestamp = number_over s.timestamps s.marks group c.timestamp;
      length = number_over s.lengths s.marks group c.length;
      payload = payload_over w.p s.media s.lengths s.marks group c.payload;
    }
content-cells w s group c = refl
