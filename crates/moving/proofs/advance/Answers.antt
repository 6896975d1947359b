-- `moving::advance` meets its contract: refused, or each part of the move in turn. Assumes nothing.
use Rattle.std.proofs.Common.{◌≡◌, sym, ap, subst, List, ℕ, arith}
use Rattle.std.proofs.lemmas.Result.{err_from_is_err_and}
use Rattle.answer.specs.Refused.{fault_of}
use Rattle.table.specs.declared.Row.{Row}
use Rattle.engine.specs.Round.{Parts}
use Rattle.window.specs.declared.Sizes.{Sizes}
use Rattle.window.specs.declared.Window.{Window}
use Rattle.moving.specs.Move.{Judged}
use Rattle.moving.proofs.Ways.{move-refused, stands, lies, move-made}
use Rattle.moving.proofs.advance.Goals as goal

abbrev parts : (media timestamps lengths marks parity : List ℕ) → List Row → Parts
parts media timestamps lengths marks parity rows = record { media = media; timestamps = timestamps; lengths = lengths; marks = marks; parity = parity; rows = rows }

-- what was judged by the sizes is so by the parts that have them
turned : {w : Window} {by room count fault : ℕ} {z z' : Sizes} {lengths marks : List ℕ} {hs hs' : List Row} → z ≡ z' → Judged w by z room count lengths marks hs hs' fault → Judged w by z' room count lengths marks hs hs' fault
turned {w} {by} {room} {count} {fault} {z} {z'} {lengths} {marks} {hs} {hs'} e j = subst (λ (s : Sizes). Judged w by s room count lengths marks hs hs' fault) e j

pub returns-in_err-check_move : goal.returns-in_err-check_move
returns-in_err-check_move c =
    let a = c.args in
    let x = parts a.media.now a.timestamps.now a.lengths.now a.marks.now a.parity.now a.rows.now in
    let p = err_from_is_err_and c.from_residual.result c.from_residual.ensures.1 in
    rw (p.1, p.2) (move-refused a.w a.by a.len x a.out.now a.sizes.now _ (fault_of c.check_move.result) (turned c.of-z.ensures c.check_move.ensures) c.in_err-check_move.field-0.0 (sym (ap fault_of c.in_err-check_move.was)))

pub leave_all-count-requires : goal.leave_all-count-requires
leave_all-count-requires c =
    let a = c.args in
    let x = parts a.media.now a.timestamps.now a.lengths.now a.marks.now a.parity.now a.rows.now in
    let j = turned c.of-z.ensures c.check_move.ensures in
    let ok = ap fault_of c.in_ok-check_move.was in
    (j.inside ok, lies a.w a.by a.len x a.out.now a.sizes.now _ (fault_of c.check_move.result) j ok, j.slots-long ok, j.sizes-long ok)

pub release_behind-released-requires : goal.release_behind-released-requires
release_behind-released-requires c =
    let a = c.args in
    let x = parts a.media.now a.timestamps.now a.lengths.now a.marks.now a.parity.now a.rows.now in
    let s = stands a.w a.by a.len x a.out.now a.sizes.now _ (fault_of c.check_move.result) (turned c.of-z.ensures c.check_move.ensures) (ap fault_of c.in_ok-check_move.was) in
    (λ i h u. (s.sound.at i h u).slot-low, s.long.parity-long)

pub shift-requires : goal.shift-requires
shift-requires c =
    let a = c.args in
    let x = parts a.media.now a.timestamps.now a.lengths.now a.marks.now a.parity.now a.rows.now in
    let ok = ap fault_of c.in_ok-check_move.was in
    let j = turned c.of-z.ensures c.check_move.ensures in
    let s = lies a.w a.by a.len x a.out.now a.sizes.now _ (fault_of c.check_move.result) j ok in
    (j.inside ok, s.media-long, s.timestamps-long, s.lengths-long, s.marks-long)

pub advanced-window-requires : goal.advanced-window-requires
advanced-window-requires c =
    let a = c.args in
    let x = parts a.media.now a.timestamps.now a.lengths.now a.marks.now a.parity.now a.rows.now in
    let ok = ap fault_of c.in_ok-check_move.was in
    let j = turned c.of-z.ensures c.check_move.ensures in
    let s = lies a.w a.by a.len x a.out.now a.sizes.now _ (fault_of c.check_move.result) j ok in
    omega (arith, j.inside ok, s.set_up.n-high)

pub returns : goal.returns
returns c =
    let a = c.args in
    let x = parts a.media.now a.timestamps.now a.lengths.now a.marks.now a.parity.now a.rows.now in
    let y : Parts = record { media = c.shift.new.media; timestamps = c.shift.new.timestamps; lengths = c.shift.new.lengths; marks = c.shift.new.marks; parity = c.release_behind-released.new.parity; rows = c.release_behind-released.new.rows } in
    let ok = ap fault_of c.in_ok-check_move.was in
    let n = c.leave_all-count in
    move-made a.w a.by a.len x a.out.now a.sizes.now _ (fault_of c.check_move.result) (turned c.of-z.ensures c.check_move.ensures) ok (omega (arith, c.well_formed)) n.result _ _ n.ensures.2 n.ensures.0 n.ensures.1 c.release_behind-released.result y c.release_behind-released.ensures c.shift.ensures c.advanced-window.result c.advanced-window.ensures
