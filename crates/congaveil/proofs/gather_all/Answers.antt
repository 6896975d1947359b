-- `congaveil::gather_all` meets its contract: the records in use are never too many. Assumes nothing.
use Rattle.std.proofs.Common.{◌≤◌, length, arith}
use Rattle.table.specs.Gather.{gathered}
use Rattle.face.specs.Done.{reached}
use Rattle.congaveil.proofs.Lent.{where_none, never_more}
use Rattle.congaveil.proofs.gather_all.Goals as goal

pub returns-in_default : goal.returns-in_default
returns-in_default c =
    let a = c.args in
    let g = c.gather in
    let most = length (gathered (reached (length a.records.now) a.k) a.records.now) in
    let many : length g.new.rows ≤ most = where_none g.result c.in_default.not-Some g.ensures.none in
    let all : 129 ≤ most = omega (arith, many, g.auto.rows, c.requires) in
    absurd (never_more a.k a.records.now all)
