-- `rtp::whole_units` meets its contract.
use Rattle.rtp.proofs.whole_units.Goals as goal

pub returns : goal.returns
returns c = cc
