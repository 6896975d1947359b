-- `load::read` meets its contract.
use Rattle.std.proofs.Common.{◌≡◌, arith}
use Rattle.std.proofs.lemmas.Grind.{common_steps}
use Rattle.capture.specs.Calls.{number_at, read_on}
use Rattle.load.proofs.read.Goals as goal

pub returns : goal.returns
unfolding read_on
returns c =
    let n : c.if-is_whole.result ≡ number_at c.feed_all-s.result = grind (arith, common_steps) in
    rw (n, c.reader_of.ensures, c.feed_all-s.ensures.0, c.stage_of.ensures.0)
