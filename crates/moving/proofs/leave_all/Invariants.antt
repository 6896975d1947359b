use Rattle.std.proofs.Common.{◌≡◌, ◌≤◌, length}
use Rattle.calls.specs.Call.{over}
use Rattle.calls.specs.Move.{leaving_slots, leaving_sizes, leaving_count}
use Rattle.moving.specs.Lies.{held_in}
use Rattle.moving.proofs.leave_all.Given as goal

abbrev pub invariant-loop-i : goal.invariant-loop-i
invariant-loop-i l = (l.out ≡ over (leaving_slots l.w (held_in l.store) l.i) l.initial.out) × (l.sizes ≡ over (leaving_sizes l.w (held_in l.store) l.i) l.initial.sizes) × (l.count ≡ leaving_count (held_in l.store) l.i) × (l.count ≤ l.i) × (length l.out ≡ length l.initial.out) × (length l.sizes ≡ length l.initial.sizes)
