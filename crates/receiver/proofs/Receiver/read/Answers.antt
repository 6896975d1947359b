-- `receiver::Receiver::read` meets its contract: the work on the rows. Assumes nothing.
use Rattle.calls.specs.Call.{read_out}
use Rattle.receiver.proofs.Ways.{unread, read_part}
use Rattle.receiver.proofs.Receiver.read.Goals as goal

pub returns-then-not-has_room : goal.returns-then-not-has_room
returns-then-not-has_room c = let a = c.args in rw c.handed.ensures (unread a.self.window.k a.len a.m a.rows.now c.has_room.result c.has_room.ensures.1 c.if-not-has_room.true (read_out a.self.window a.number) a.store a.out.now _)

pub returns : goal.returns
returns c =
    let a = c.args in
    rw c.handed-2.ensures (read_part a.self.window a.len a.m a.rows.now (c.has_room.ensures.0 c.if-not-has_room.false).1 (read_out a.self.window a.number) a.store a.out.now _ c.read_out-written.result c.counted.result c.counted.ensures c.read_out-written.ensures)
