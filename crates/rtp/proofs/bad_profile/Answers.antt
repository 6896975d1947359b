-- `rtp::bad_profile` meets its contract: the fields are those of the definition.
use Rattle.rtp.proofs.bad_profile.Goals as goal

pub returns : goal.returns
returns c = cc
