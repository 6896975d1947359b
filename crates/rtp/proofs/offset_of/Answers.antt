-- `rtp::offset_of` meets its contract: each arm by its test.
use borrow.Author.Tests.{eq-eqb, ne_eqb}
use Rattle.rtp.proofs.offset_of.Goals as goal

pub returns-then-stream-eq-COLUMN : goal.returns-then-stream-eq-COLUMN
returns-then-stream-eq-COLUMN c = rw (eq-eqb _ _ c.if-stream-eq-COLUMN.true)

pub returns-else-stream-eq-COLUMN : goal.returns-else-stream-eq-COLUMN
returns-else-stream-eq-COLUMN c = rw (ne_eqb _ _ c.if-stream-eq-COLUMN.false)
