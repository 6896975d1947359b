-- `sender::absorb` meets its contract.
use Rattle.std.proofs.Common.{arith}
use Rattle.sender.specs.Sums.{lent}
use Rattle.sender.specs.Ready.{slot_of}
use Rattle.sender.proofs.Ways.{joining_fits, absorbed-both}
use Rattle.sender.proofs.absorb.Goals as goal

pub join-requires-2 : goal.join-requires-2
join-requires-2 c =
    let a = c.args in
    let r = lent a.payloads.now a.timestamps.now a.lengths.now a.longest.now in
    let h = joining_fits a.s r c.requires.0 c.column_in-c.result (rw (← c.from.ensures) c.column_in-c.ensures) in
    let q = slot_of a.s r c.column_in-c.result.slot c.requires.0.set_up c.requires.0.roomy h in
    let k = c.join.auto in
    (record { low = q.low; payload-ends = omega (arith, q.payload-ends, k); timestamp-inside = omega (arith, q.timestamp-inside, k); length-inside = omega (arith, q.length-inside, k); longest-inside = omega (arith, q.longest-inside, k) }, c.requires.1)

pub returns : goal.returns
returns c =
    let a = c.args in
    absorbed-both a.s a.datagram.now (lent a.payloads.now a.timestamps.now a.lengths.now a.longest.now) _ _ c.column_in-c.result (rw (← c.from.ensures) c.column_in-c.ensures) c.join.ensures c.join-2.ensures
