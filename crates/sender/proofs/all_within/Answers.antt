-- `sender::all_within` meets its contract.
use Rattle.std.proofs.Common.{leb, take, rules}
use Rattle.std.proofs.iter.runs.Made.{chains}
use Rattle.sequence.proofs.Chains.{all_decided}
use Rattle.sender.proofs.all_within.Goals as goal

pub returns : goal.returns
returns c = all_decided (λ i. leb i c.args.p) (take c.args.n c.args.longest.now) c.all.result (search (rules, chains))
