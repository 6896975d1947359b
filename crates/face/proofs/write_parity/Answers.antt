-- `face::write_parity` meets its contract. Assumes nothing.
use Rattle.std.proofs.Common.{◌≡◌, arith}
use Rattle.rtp.specs.Fec.{column, row}
use Rattle.calls.specs.Call.{wrote_parity}
use Rattle.face.proofs.Ways.{given}
use Rattle.face.proofs.write_parity.Goals as goal

pub returns-then-stream-eq-COLUMN : goal.returns-then-stream-eq-COLUMN
returns-then-stream-eq-COLUMN c = let a = c.args in rw (c.if-stream-eq-COLUMN.true) (given (wrote_parity column a.w a.snbase (record { sequence = a.sequence; timestamp = a.timestamp; ssrc = a.ssrc })) a.len a.w.k a.m a.store a.rows.now a.out.now _ c.requires.0 c.write_column-r.result c.write_column-r.ensures c.by_number.result c.by_number.ensures)

pub returns : goal.returns
returns c =
    let a = c.args in
    let e : a.stream ≡ row = omega (arith, c.requires.1, c.if-stream-eq-COLUMN.false) in
    rw e (given (wrote_parity row a.w a.snbase (record { sequence = a.sequence; timestamp = a.timestamp; ssrc = a.ssrc })) a.len a.w.k a.m a.store a.rows.now a.out.now _ c.requires.0 c.write_row-r.result c.write_row-r.ensures c.by_number-2.result c.by_number-2.ensures)
