-- `receiver::Receiver::advance` meets its contract: the move on the rows. Assumes nothing.
use Rattle.calls.specs.Move.{moved}
use Rattle.receiver.proofs.Ways.{unmoved, move_step, unmade_step}
use Rattle.receiver.proofs.Receiver.advance.Goals as goal

pub returns-then-not-has_room : goal.returns-then-not-has_room
returns-then-not-has_room c =
    let a = c.args in
    let w = a.self.window in
    rw c.handed.ensures (unmoved w.k a.len a.m a.rows.now c.has_room.result c.has_room.ensures.1 c.if-not-has_room.true (λ s. moved w a.by s a.out.now a.sizes.now) a.media.now a.timestamps.now a.lengths.now a.marks.now a.parity.now a.out.now a.sizes.now _)

pub returns-in-Ok : goal.returns-in-Ok
returns-in-Ok c =
    let a = c.args in
    let r = c.advance in
    let room = c.has_room.ensures.0 c.if-not-has_room.false in
    rw c.handed-in-Ok.ensures (move_step a.self.window a.len a.m a.rows.now room.1 r.new.rows r.auto.rows a.by a.out.now a.sizes.now a.media.now a.timestamps.now a.lengths.now a.marks.now a.parity.now _ _ _ _ _ _ _ c.in-Ok.r c.in-Ok.ensures)

pub returns-in-Err : goal.returns-in-Err
returns-in-Err c =
    let a = c.args in
    let r = c.advance in
    let room = c.has_room.ensures.0 c.if-not-has_room.false in
    rw c.handed-in-Err.ensures (unmade_step a.self.window a.len a.m a.rows.now room.1 r.new.rows r.auto.rows a.by a.out.now a.sizes.now a.media.now a.timestamps.now a.lengths.now a.marks.now a.parity.now _ _ _ _ _ _ _ c.in-Err.e c.in-Err.ensures)
