-- What a call does, as moves of the theory: rebuilding by a check, letting go of a spent check, taking one into a free record.
use Rattle.std.specs.Prelude.{◌≡◌, true, ℕ, ◌<◌, replicate}
use Rattle.std.proofs.Math.Option.{some}
use mathlib.Core.List.{List, ◌∷◌, ◌++◌, Memᴰ}
use Rattle.window.specs.declared.Window.{Window}
use Rattle.window.specs.Record.{blank}
use Rattle.window.specs.Store.{Store}
use Rattle.window.specs.Group.{is_missing}
use Rattle.calls.specs.Content.{Content, content_over}
use Rattle.calls.specs.State.{put, put_record}
use Rattle.peel.specs.Group.{total}
use Rattle.guarantee.specs.Packets.{Whole, xored, zeros, packet_of}
use Rattle.guarantee.specs.View.{packet_at, slot_at}

-- the store after a check of a group has rebuilt position i
abbrev pub rebuilt_in : Window → Store → List ℕ → Content → ℕ → Store
rebuilt_in w s g v i = put w s i (content_over w s g v)

-- the missing member and the others, all of them present, and the packet rebuilt
pub record Solved (w : Window) (s : Store) (g : List ℕ) (v : Content) (i : ℕ) : Type 0 where
  pub left : List ℕ
  pub right : List ℕ
  pub is : g ≡ left ++ (i ∷ right)
  pub below : i < w.n
  pub empty : is_missing s.marks i ≡ true
  pub rest : (j : ℕ) → Memᴰ j (left ++ right) → slot_at w s j ≡ some (packet_at w s j)
  pub size : Whole w.p (content_over w s g v)
  pub adds : packet_of (content_over w s g v) ≡ xored (packet_of v) (total xored zeros (packet_at w s) (left ++ right))

-- ---- a check that is let go
-- a record and its payload set to zero (State.antt, release)
abbrev pub freed : Window → Store → ℕ → Store
freed w s r = put_record w s r blank (replicate w.p 0)
