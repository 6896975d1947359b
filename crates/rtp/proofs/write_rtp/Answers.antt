-- `rtp::write_rtp` meets its contract: the stores of the calls are those of `sets`, one after the other.
use Rattle.rtp.proofs.write_rtp.Goals as goal

pub returns : goal.returns
returns c = rw (c.put32-2.ensures, c.put32.ensures, c.put4.ensures, c.high.ensures, c.low.ensures)
