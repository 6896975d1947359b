-- `rtp::write_fec` meets its contract: the stores of the calls are those of `sets`, one after the other.
use Rattle.rtp.proofs.write_fec.Goals as goal

pub returns : goal.returns
returns c = rw (c.put4-3.ensures, c.put32.ensures, c.put4-2.ensures, c.put4.ensures, c.high.ensures, c.low.ensures, c.high-2.ensures, c.low-2.ensures)
