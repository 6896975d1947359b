-- `rtp::bad_recovery` meets its contract: the fields are those of the definition.
use Rattle.rtp.proofs.bad_recovery.Goals as goal

pub returns : goal.returns
returns c = cc
