-- `sender::join` meets its contract.
use Rattle.std.proofs.Common.{◌+◌, ◌-◌, ◌*◌, true, false, ap, refl, length, take, drop, length-drop, arith}
use Rattle.sender.proofs.Ways.{rest-is, lay-payload, xor-payload, joined-room}
use Rattle.sender.proofs.join.Goals as goal

pub returns-then-first : goal.returns-then-first
returns-then-first c =
    let a = c.args in
    let at = a.slot * a.p in
    rw c.if-first.true
    (joined-room a.p a.slot true a.datagram.now a.payloads.now a.timestamps.now a.lengths.now a.longest.now _ c.timestamp-stamp.result (length (take (length a.datagram.now - 12) (drop 12 a.datagram.now))) _ _ _
    c.timestamp-stamp.ensures (ap length (rest-is 12 a.datagram.now))
    (lay-payload a.payloads.now at a.datagram.now 12 a.p (at + a.p - at) (omega arith) c.requires.0.payload-ends c.lay.new.dst c.lay.ensures)
    refl refl refl)

pub returns-else-first : goal.returns-else-first
returns-else-first c =
    let a = c.args in
    let at = a.slot * a.p in
    let fits = length-drop 12 a.datagram.now in
    rw c.if-first.false
    (joined-room a.p a.slot false a.datagram.now a.payloads.now a.timestamps.now a.lengths.now a.longest.now _ c.timestamp-stamp.result (length (take (length a.datagram.now - 12) (drop 12 a.datagram.now))) _ _ c.max.result
    c.timestamp-stamp.ensures (ap length (rest-is 12 a.datagram.now))
    (xor-payload a.payloads.now at a.datagram.now 12 a.p (at + a.p - at) (omega arith) c.requires.0.payload-ends c.xor_into.new.dst (omega (arith, fits, c.requires.1.fits)) c.xor_into.ensures)
    refl refl c.max.ensures)
