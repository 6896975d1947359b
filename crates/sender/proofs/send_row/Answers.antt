-- `sender::send_row` meets its contract.
use Rattle.std.proofs.Common.{◌∙◌}
use Rattle.sender.specs.Sums.{room_of}
use Rattle.sender.proofs.Ways.{row-none, row-some}
use Rattle.sender.proofs.send_row.Goals as goal

pub returns-then-no_row-s : goal.returns-then-no_row-s
returns-then-no_row-s c = let a = c.args in row-none a.s a.o (room_of a.sums) a.out.now c.no_row.result c.no_row.ensures c.if-no_row-s.true

pub returns : goal.returns
returns c =
    let a = c.args in
    c.send.ensures ∙ row-some a.s a.o (room_of a.sums) a.out.now c.no_row.result c.no_row.ensures c.if-no_row-s.false
