-- `group::add_up` meets its contract: the rows are the members that are held. Assumes nothing.
use Rattle.std.proofs.Common.{◌∙◌}
use Rattle.window.specs.Group.{group}
use Rattle.group.proofs.Rows.{rows-asked, numbers_asked, numbers_held, payloads-held}
use Rattle.group.proofs.add_up.Goals as goal

pub add_rows-requires : goal.add_rows-requires
add_rows-requires c =
    let a = c.args in
    let m = c.members_held-m in
    let these = group a.w a.stream a.snbase in
    (rw c.requires.2 (rows-asked these a.marks.now a.w.n m.result.rows m.result.n m.ensures a.w.p a.media.now c.requires.3), numbers_asked these a.marks.now a.w.n m.result.rows m.result.n m.ensures a.lengths.now c.requires.5)

pub xor_timestamps-requires : goal.xor_timestamps-requires
xor_timestamps-requires c =
    let a = c.args in
    let m = c.members_held-m in
    numbers_asked (group a.w a.stream a.snbase) a.marks.now a.w.n m.result.rows m.result.n m.ensures a.timestamps.now c.requires.4

pub xor_lengths-requires : goal.xor_lengths-requires
xor_lengths-requires c =
    let a = c.args in
    let m = c.members_held-m in
    numbers_asked (group a.w a.stream a.snbase) a.marks.now a.w.n m.result.rows m.result.n m.ensures a.lengths.now c.requires.5

pub returns : goal.returns
returns c =
    let a = c.args in
    let m = c.members_held-m in
    let these = group a.w a.stream a.snbase in (
      c.xor_timestamps.ensures ∙ numbers_held these a.marks.now a.w.n m.result.rows m.result.n m.ensures a.timestamps.now a.with.timestamp,
      c.xor_lengths.ensures ∙ numbers_held these a.marks.now a.w.n m.result.rows m.result.n m.ensures a.lengths.now a.with.length,
      c.add_rows.ensures ∙ rw c.requires.2 (payloads-held these a.marks.now a.w.n m.result.rows m.result.n m.ensures a.w.p a.media.now a.lengths.now a.sum.now),
    )
