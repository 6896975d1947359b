-- `rtp::by_na` meets its contract: each arm by its test.
use borrow.Author.Tests.{eq-eqb, ne_eqb}
use Rattle.rtp.proofs.by_na.Goals as goal

pub returns-then-na-eq0 : goal.returns-then-na-eq0
returns-then-na-eq0 c = rw (eq-eqb _ _ c.if-na-eq0.true)

pub returns-else-na-eq0 : goal.returns-else-na-eq0
returns-else-na-eq0 c = rw (ne_eqb _ _ c.if-na-eq0.false)
