-- `group::defines` meets its contract: what the group gives is added up, and compared as far as it reaches. Assumes nothing.
use Rattle.window.specs.Group.{group}
use Rattle.group.proofs.Defined.{other-size, other_numbers, by-payload}
use Rattle.group.proofs.defines.Goals as goal

pub returns-then-r-recovery : goal.returns-then-r-recovery
returns-then-r-recovery c =
    let a = c.args in
    let x = c.sum_up-r in
    other-size a.w a.media.now a.timestamps.now a.lengths.now a.marks.now (group a.w a.stream a.snbase) c.requires.2 x.result.timestamp x.result.length x.result.size x.ensures.0 x.ensures.1 x.ensures.2 a.recovery.timestamp a.recovery.length a.recovery.payload.now c.if-r-recovery.true

pub returns-then-r-recovery-2 : goal.returns-then-r-recovery-2
returns-then-r-recovery-2 c =
    let a = c.args in
    let x = c.sum_up-r in
    other_numbers a.w a.media.now a.timestamps.now a.lengths.now a.marks.now (group a.w a.stream a.snbase) c.requires.2 x.result.timestamp x.result.length x.result.size x.ensures.0 x.ensures.1 x.ensures.2 a.recovery.timestamp a.recovery.length a.recovery.payload.now c.if-r-recovery-2.true

pub returns : goal.returns
returns c =
    let a = c.args in
    let x = c.sum_up-r in
    by-payload a.w a.media.now a.timestamps.now a.lengths.now a.marks.now (group a.w a.stream a.snbase) c.requires.2 x.result.timestamp x.result.length x.result.size x.ensures.0 x.ensures.1 x.ensures.2 a.recovery.timestamp a.recovery.length a.recovery.payload.now c.if-r-recovery.false c.requires.3 c.if-r-recovery-2.false 1428 c.requires.0.p-high x.new.sum x.ensures.4 c.same.result c.same.ensures
