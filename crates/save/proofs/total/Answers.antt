-- `save::total` meets its contract.
use Rattle.std.proofs.Common.{◌≡◌, sum, rules, ◌∙◌}
use Rattle.std.proofs.iter.runs.Made.{chains}
use Rattle.save.proofs.Sum.{total-sum}
use Rattle.save.proofs.total.Goals as goal

pub returns : goal.returns
returns c = let e : c.sum.result ≡ sum c.args.lengths.now = search (rules, chains) in e ∙ total-sum c.args.lengths.now
