-- `group::members_held` meets its contract: the members are those of the group. Assumes nothing.
use Rattle.group.proofs.Rows.{is_held}
use Rattle.std.proofs.Common.{arith}
use Rattle.group.proofs.members_held.Goals as goal

pub returns : goal.returns
returns c =
    let the-args = c.args in
    let the-good = c.well_formed in
    let the-pre = c.requires in
    let the-offset-of = c.offset_of-offset in
    let the-na-of = c.na_of-na in
    let the-held-along = c.held_along in
    is_held the-args.w (omega (arith, the-good)) the-pre.0 the-args.stream the-args.snbase the-pre.1 the-offset-of.result the-na-of.result the-offset-of.ensures the-na-of.ensures the-args.marks.now _ _ the-held-along.ensures.0 the-held-along.ensures.1 the-held-along.ensures.2
