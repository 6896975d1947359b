use Rattle.std.proofs.Common.{◌≡◌, ◌≤◌, ◌-◌, length}
use Rattle.moving.proofs.Blocks.{slid}
use Rattle.moving.proofs.slide_bytes.Given as goal

abbrev pub invariant-loop-at : goal.invariant-loop-at
invariant-loop-at l = (l.at ≤ l.left) × (l.part ≡ slid l.m l.at l.initial.part) × (length l.part ≡ length l.initial.part) × (length l.block ≡ 4096)

abbrev pub decreases-loop-at : goal.decreases-loop-at
decreases-loop-at l = l.left - l.at
