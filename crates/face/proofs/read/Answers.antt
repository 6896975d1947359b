-- `face::read` meets its contract. Assumes nothing.
use Rattle.calls.specs.Call.{read_out}
use Rattle.face.proofs.Ways.{given}
use Rattle.face.proofs.read.Goals as goal

pub returns : goal.returns
returns c = let a = c.args in given (read_out a.w a.number) a.len a.w.k a.m a.store a.rows.now a.out.now _ c.requires c.read-r.result c.read-r.ensures c.by_number.result c.by_number.ensures
