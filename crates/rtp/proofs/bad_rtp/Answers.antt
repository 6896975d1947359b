-- `rtp::bad_rtp` meets its contract: the fields are those of the definition.
use Rattle.rtp.proofs.bad_rtp.Goals as goal

pub returns : goal.returns
returns c = cc
