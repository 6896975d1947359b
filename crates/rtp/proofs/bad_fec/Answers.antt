-- `rtp::bad_fec` meets its contract: the fields are those of the definition.
use Rattle.rtp.proofs.bad_fec.Goals as goal

pub returns : goal.returns
returns c = cc
