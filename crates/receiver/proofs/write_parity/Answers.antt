-- `receiver::write_parity` meets its contract: the work on the rows. Assumes nothing.
use Rattle.calls.specs.Call.{wrote_parity}
use Rattle.receiver.proofs.Ways.{unread, read_part}
use Rattle.receiver.proofs.write_parity.Goals as goal

pub returns-then-not-has_room : goal.returns-then-not-has_room
returns-then-not-has_room c =
    let a = c.args in
    rw c.handed.ensures (unread a.w.k a.len a.m a.rows.now c.has_room.result c.has_room.ensures.1 c.if-not-has_room.true (wrote_parity a.stream a.w a.snbase (record { sequence = a.sequence; timestamp = a.timestamp; ssrc = a.ssrc })) a.store a.out.now _)

pub returns : goal.returns
returns c =
    let a = c.args in
    rw c.handed-2.ensures (read_part a.w a.len a.m a.rows.now (c.has_room.ensures.0 c.if-not-has_room.false).1 (wrote_parity a.stream a.w a.snbase (record { sequence = a.sequence; timestamp = a.timestamp; ssrc = a.ssrc })) a.store a.out.now _ c.write_parity-written.result c.counted.result c.counted.ensures c.write_parity-written.ensures)
