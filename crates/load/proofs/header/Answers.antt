-- `load::header` meets its contract.
use Rattle.std.proofs.Common.{arith}
use Rattle.load.proofs.Front.{header-short, header-many, header-good}
use Rattle.load.proofs.header.Goals as goal

pub returns-then-front-lt12 : goal.returns-then-front-lt12
returns-then-front-lt12 c = header-short c.args.front.now c.if-front-lt12.true

pub returns-then-count-gt512 : goal.returns-then-count-gt512
returns-then-count-gt512 c = header-many c.args.front.now c.if-front-lt12.false (omega arith)

pub returns : goal.returns
returns c = header-good c.args.front.now _ _ _ _ _ _ _ c.if-front-lt12.false (omega arith) c.at16-count.ensures c.at16.ensures c.byte_at.ensures c.byte_at-2.ensures c.at16-2.ensures c.at16-3.ensures c.at16-4.ensures
