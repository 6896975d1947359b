-- `receiver::offer_parity` meets its contract: the offer on the rows, and the record that it holds, if it holds one. Assumes nothing.
use Rattle.std.proofs.Common.{arith}
use Rattle.calls.specs.Call.{offered_parity}
use Rattle.receiver.proofs.Ways.{unlaid, refused_step, plain_step, held_step, back_more, none_held}
use Rattle.receiver.proofs.offer_parity.Goals as goal

pub returns-then-not-has_room : goal.returns-then-not-has_room
returns-then-not-has_room c = let a = c.args in rw c.handed.ensures (unlaid a.w.k a.len a.m a.rows.now c.has_room.result c.has_room.ensures.1 c.if-not-has_room.true (offered_parity a.stream a.w a.datagram.now) a.media.now a.timestamps.now a.lengths.now a.marks.now a.parity.now _)

pub returns-in-Err : goal.returns-in-Err
returns-in-Err c =
    let a = c.args in
    let o = c.offer_parity in
    let room = c.has_room.ensures.0 c.if-not-has_room.false in
    rw c.handed-in-Err.ensures (refused_step a.w a.len a.m a.rows.now room.1 o.new.rows o.auto.rows (offered_parity a.stream a.w a.datagram.now) a.media.now a.timestamps.now a.lengths.now a.marks.now a.parity.now c.in-Err.e _ _ _ _ _ c.in-Err.ensures)

pub returns-in_default : goal.returns-in_default
returns-in_default c =
    let a = c.args in
    let o = c.offer_parity in
    let room = c.has_room.ensures.0 c.if-not-has_room.false in
    rw c.handed-in_default.ensures (plain_step a.w a.len a.m a.rows.now room.1 o.new.rows o.auto.rows (offered_parity a.stream a.w a.datagram.now) a.media.now a.timestamps.now a.lengths.now a.marks.now a.parity.now c.in-Ok.r _ _ _ _ _ c.in-Ok.ensures (none_held c.in-Ok.r.held c.in_default.not-Some))

pub hold-n-requires : goal.hold-n-requires
hold-n-requires c =
    let a = c.args in
    let o = c.offer_parity in
    let room = c.has_room.ensures.0 c.if-not-has_room.false in
    (back_more a.w a.len a.m a.rows.now room.1 o.new.rows o.auto.rows, omega (arith, room.0))

pub returns : goal.returns
returns c =
    let a = c.args in
    let o = c.offer_parity in
    let n = c.hold-n in
    let room = c.has_room.ensures.0 c.if-not-has_room.false in
    let more = back_more a.w a.len a.m a.rows.now room.1 o.new.rows o.auto.rows in
    rw c.handed-2.ensures (held_step a.w a.len a.m a.rows.now room.1 o.new.rows o.auto.rows (offered_parity a.stream a.w a.datagram.now) a.media.now a.timestamps.now a.lengths.now a.marks.now a.parity.now c.in-Ok.r _ _ _ _ _ c.in-Ok.ensures c.in-Some.v c.in-Some.is n.result n.new.rows n.ensures.0 (omega (arith, n.ensures.1, n.auto.rows, more)))
