-- `sender::send_column` meets its contract.
use Rattle.std.proofs.Common.{arith, ◌∙◌}
use Rattle.sender.specs.Sums.{room_of}
use Rattle.sender.specs.Ready.{slot_of}
use Rattle.sender.proofs.Ways.{column-none, column-some, leaving-fits}
use Rattle.sender.proofs.send_column.Goals as goal

pub send-requires : goal.send-requires
send-requires c =
    let a = c.args in
    let r = room_of a.sums in
    let h = leaving-fits a.s r c.requires.0 c.in-Some.c (rw (← c.from.ensures) c.in-Some.ensures) in
    (c.requires.0.set_up, omega arith, h.1, slot_of a.s r c.in-Some.c.slot c.requires.0.set_up c.requires.0.roomy h.0, c.requires.0.within c.in-Some.c.slot h.0, c.requires.1)

pub returns-in-Some : goal.returns-in-Some
returns-in-Some c =
    let a = c.args in
    c.send.ensures ∙ column-some a.s a.o (room_of a.sums) a.out.now c.in-Some.c (rw (← c.from.ensures) c.in-Some.ensures)

pub returns-in-None : goal.returns-in-None
returns-in-None c =
    let a = c.args in
    column-none a.s a.o (room_of a.sums) a.out.now (rw (← c.from.ensures) c.in-None.ensures)
