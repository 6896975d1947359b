-- `face::parity` meets its contract. Assumes nothing.
use Rattle.rtp.specs.Fec.{column, row}
use Rattle.calls.specs.Call.{offered_parity}
use Rattle.face.proofs.Ways.{done}
use Rattle.face.proofs.parity.Goals as goal

pub returns-then-stream-eq-COLUMN : goal.returns-then-stream-eq-COLUMN
returns-then-stream-eq-COLUMN c = let a = c.args in rw (c.if-stream-eq-COLUMN.true) (done (offered_parity column a.w a.datagram.now) a.len a.w.k a.m a.media.now a.timestamps.now a.lengths.now a.marks.now a.parity.now a.rows.now c.requires _ _ _ _ _ _ c.column.result c.column.ensures c.finish.result c.finish.ensures.0 c.finish.ensures.1)

pub returns-then-stream-eq-ROW : goal.returns-then-stream-eq-ROW
returns-then-stream-eq-ROW c = let a = c.args in rw (c.if-stream-eq-ROW.true) (done (offered_parity row a.w a.datagram.now) a.len a.w.k a.m a.media.now a.timestamps.now a.lengths.now a.marks.now a.parity.now a.rows.now c.requires _ _ _ _ _ _ c.row.result c.row.ensures c.finish-then-stream-eq-ROW.result c.finish-then-stream-eq-ROW.ensures.0 c.finish-then-stream-eq-ROW.ensures.1)

pub returns : goal.returns
returns c = let a = c.args in done (offered_parity a.stream a.w a.datagram.now) a.len a.w.k a.m a.media.now a.timestamps.now a.lengths.now a.marks.now a.parity.now a.rows.now c.requires _ _ _ _ _ _ c.offer_parity.result c.offer_parity.ensures c.finish-2.result c.finish-2.ensures.0 c.finish-2.ensures.1
