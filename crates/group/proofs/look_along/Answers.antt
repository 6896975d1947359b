-- `group::look_along` meets its contract: none was missing, one, or another. Assumes nothing.
use Rattle.group.proofs.Along.{place_is}
use Rattle.group.proofs.Looking.{found_none, found-one, found-more}
use Rattle.group.proofs.look_along.Goals as goal

pub returns-in_default : goal.returns-in_default
returns-in_default c =
    let a = c.args in
    found_none a.marks.now a.base a.snbase a.offset a.na c.in_default.ensures

pub returns-in_default-next_missing : goal.returns-in_default-next_missing
returns-in_default-next_missing c =
    let a = c.args in
    let f = c.in-Some in
    found-one a.marks.now a.base a.snbase a.offset a.na f.first f.ensures.0 f.ensures.1 c.in_default-next_missing.ensures c.position.result
    (place_is a.base a.snbase a.offset f.first c.member_at-number.result c.position.result c.member_at-number.ensures c.position.ensures)

pub returns : goal.returns
returns c =
    let a = c.args in
    let f = c.in-Some in
    let s = c.in-Some-next_missing in
    found-more a.marks.now a.base a.snbase a.offset a.na f.first f.ensures.0 f.ensures.1 s.second s.ensures.1 s.ensures.0
