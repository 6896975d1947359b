-- `offer::recovery_of` meets its contract. Assumes nothing.
use Rattle.rtp.specs.Fec.{parity_header_size}
use Rattle.offer.proofs.Tests.{rest-is}
use Rattle.offer.proofs.recovery_of.Goals as goal

pub returns : goal.returns
returns c = (c.timestamp_recovery.ensures, c.length_recovery.ensures, rest-is parity_header_size c.args.datagram.now)
