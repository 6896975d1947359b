-- `receiver::Receiver::media` meets its contract: the offer on the rows. Assumes nothing.
use Rattle.calls.specs.Call.{offered_media}
use Rattle.receiver.proofs.Ways.{unlaid, refused_step, plain_step}
use Rattle.receiver.proofs.Receiver.media.Goals as goal

pub returns-then-not-has_room : goal.returns-then-not-has_room
returns-then-not-has_room c = let a = c.args in let w = a.self.window in rw c.handed.ensures (unlaid w.k a.len a.m a.rows.now c.has_room.result c.has_room.ensures.1 c.if-not-has_room.true (offered_media w a.datagram.now) a.media.now a.timestamps.now a.lengths.now a.marks.now a.parity.now _)

pub returns-in-Ok : goal.returns-in-Ok
returns-in-Ok c =
    let a = c.args in
    let w = a.self.window in
    let o = c.offer_media in
    let room = c.has_room.ensures.0 c.if-not-has_room.false in
    rw c.handed-in-Ok.ensures (plain_step w a.len a.m a.rows.now room.1 o.new.rows o.auto.rows (offered_media w a.datagram.now) a.media.now a.timestamps.now a.lengths.now a.marks.now a.parity.now c.in-Ok.r _ _ _ _ _ c.in-Ok.ensures.offer c.in-Ok.ensures.held)

pub returns-in-Err : goal.returns-in-Err
returns-in-Err c =
    let a = c.args in
    let w = a.self.window in
    let o = c.offer_media in
    let room = c.has_room.ensures.0 c.if-not-has_room.false in
    rw c.handed-in-Err.ensures (refused_step w a.len a.m a.rows.now room.1 o.new.rows o.auto.rows (offered_media w a.datagram.now) a.media.now a.timestamps.now a.lengths.now a.marks.now a.parity.now c.in-Err.e _ _ _ _ _ c.in-Err.ensures.offer)
