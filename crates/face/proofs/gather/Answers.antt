-- `face::gather` meets its contract: all rows but the last are lent to the gathering. Assumes nothing.
use Rattle.std.proofs.Common.{◌≡◌, refl, length, drop, length-drop, ◌-◌, arith}
use Rattle.face.proofs.Ways.{was_some, was_none}
use Rattle.face.proofs.gather.Goals as goal

pub returns-clause-some : goal.returns-clause-some
returns-clause-some c =
    let a = c.args in
    let rest = drop (length a.rows.now - 1) a.rows.now in
    let one : length rest ≡ 1 = omega (arith, length-drop (length a.rows.now - 1) a.rows.now, c.requires) in
    was_some (length a.records.now) a.k c.reach.result c.reach.ensures c.gather.new.rows rest one a.records.now c.gather.result refl c.gather.ensures.some

pub returns-clause-none : goal.returns-clause-none
returns-clause-none c =
    let a = c.args in
    let rest = drop (length a.rows.now - 1) a.rows.now in
    let one : length rest ≡ 1 = omega (arith, length-drop (length a.rows.now - 1) a.rows.now, c.requires) in
    was_none (length a.records.now) a.k c.reach.result c.reach.ensures c.gather.new.rows rest one a.records.now c.gather.result c.gather.ensures.none
