use Rattle.std.proofs.Common.{◌≡◌, drop}
use Rattle.capture.specs.Stage.{run}
use Rattle.capture.specs.Small.{Small}
use Rattle.load.proofs.feed_all.Given as goal

abbrev pub invariant-loop-i : goal.invariant-loop-i
invariant-loop-i l = Small l.q × (run l.q (drop l.i l.piece) ≡ run l.initial.q l.piece)
