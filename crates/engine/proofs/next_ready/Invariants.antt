use Rattle.engine.proofs.Next.{Leads}
use Rattle.engine.proofs.next_ready.Given as goal

abbrev pub invariant-loop-i : goal.invariant-loop-i
invariant-loop-i l = Leads l.w.base l.rows l.i l.best
