-- `face::media` meets its contract. Assumes nothing.
use Rattle.calls.specs.Call.{offered_media}
use Rattle.face.proofs.Ways.{done}
use Rattle.face.proofs.media.Goals as goal

pub returns : goal.returns
returns c = let a = c.args in done (offered_media a.w a.datagram.now) a.len a.w.k a.m a.media.now a.timestamps.now a.lengths.now a.marks.now a.parity.now a.rows.now c.requires _ _ _ _ _ _ c.media.result c.media.ensures c.finish.result c.finish.ensures.0 c.finish.ensures.1
