-- `offer::offer_parity` meets its contract: each return is a way through the offer. Assumes nothing.
use Rattle.std.proofs.Common.{◌≡◌, List, ℕ, refl, sym, ap, ◌∙◌, length, arith}
use Rattle.std.proofs.lemmas.Result.{err_from_is_err_and}
use Rattle.answer.specs.Refused.{fault_of}
use Rattle.rtp.specs.Fec.{snbase}
use Rattle.window.specs.Group.{group}
use Rattle.window.specs.Look.{none-missing, one-missing, more-missing}
use Rattle.table.specs.declared.Row.{Row}
use Rattle.engine.specs.Round.{Parts}
use Rattle.offer.proofs.Tests.{parity-long}
use Rattle.offer.proofs.Ways.{stands, serves, parity-stands, parity_wrong, parity-placed, parity-accepted, parity-spent, parity_held_lem}
use Rattle.offer.proofs.offer_parity.Goals as goal

-- the parts of a store, by its lists
abbrev parts : (media timestamps lengths marks parity : List ℕ) → List Row → Parts
parts media timestamps lengths marks parity rows = record { media = media; timestamps = timestamps; lengths = lengths; marks = marks; parity = parity; rows = rows }

pub returns-in_err-check_standing : goal.returns-in_err-check_standing
returns-in_err-check_standing c =
    let a = c.args in
    let x = parts a.media.now a.timestamps.now a.lengths.now a.marks.now a.parity.now a.rows.now in
    let p = err_from_is_err_and c.from_residual.result c.from_residual.ensures.1 in
    rw (p.1, p.2) (parity-stands a.w x a.len _ (fault_of c.check_standing.result) c.check_standing.ensures a.stream a.datagram.now c.in_err-check_standing.field-0.0 (ap fault_of c.in_err-check_standing.was))

pub returns-in_err-check_parity : goal.returns-in_err-check_parity
returns-in_err-check_parity c =
    let a = c.args in
    let x = parts a.media.now a.timestamps.now a.lengths.now a.marks.now a.parity.now a.rows.now in
    let p = err_from_is_err_and c.from_residual-in_err-check_parity.result c.from_residual-in_err-check_parity.ensures.1 in
    rw (p.1, p.2) (parity_wrong a.w x a.len _ (fault_of c.check_standing.result) c.check_standing.ensures a.stream a.datagram.now (ap fault_of c.in_ok-check_standing.was) (fault_of c.check_parity.result) c.check_parity.ensures c.in_err-check_parity.field-0.0 (ap fault_of c.in_err-check_parity.was))

pub check_parity_place-requires : goal.check_parity_place-requires
check_parity_place-requires c =
    let a = c.args in
    let x = parts a.media.now a.timestamps.now a.lengths.now a.marks.now a.parity.now a.rows.now in
    let s = stands a.w x a.len _ (fault_of c.check_standing.result) c.check_standing.ensures (ap fault_of c.in_ok-check_standing.was) in
    (s.set_up, s.long.marks-long, s.long.parity-long, λ i h u. (s.sound.at i h u).slot-low, parity-long a.stream a.w.l a.w.d a.w.p a.datagram.now (fault_of c.check_parity.result) c.check_parity.ensures (ap fault_of c.in_ok-check_parity.was), s.long.media-long, s.long.timestamps-long, s.long.lengths-long, s.lengths-low)

pub returns-in_err-found : goal.returns-in_err-found
returns-in_err-found c =
    let a = c.args in
    let x = parts a.media.now a.timestamps.now a.lengths.now a.marks.now a.parity.now a.rows.now in
    let p = err_from_is_err_and c.from_residual-in_err-found.result c.from_residual-in_err-found.ensures.1 in
    rw (p.1, p.2) (parity-placed a.w x a.len _ (fault_of c.check_standing.result) c.check_standing.ensures a.stream a.datagram.now (ap fault_of c.in_ok-check_standing.was) (fault_of c.check_parity.result) c.check_parity.ensures (ap fault_of c.in_ok-check_parity.was) (fault_of c.check_parity_place.result) c.check_parity_place.ensures.is c.in_err-found.field-0.0 (ap fault_of c.in_err-found.was))

pub accept_last-offered-requires : goal.accept_last-offered-requires
accept_last-offered-requires c =
    let a = c.args in
    let x = parts a.media.now a.timestamps.now a.lengths.now a.marks.now a.parity.now a.rows.now in
    let s = stands a.w x a.len _ (fault_of c.check_standing.result) c.check_standing.ensures (ap fault_of c.in_ok-check_standing.was) in
    let g = group a.w a.stream (snbase a.datagram.now) in
    (serves a.w x a.len _ (fault_of c.check_standing.result) c.check_standing.ensures (ap fault_of c.in_ok-check_standing.was), parity-long a.stream a.w.l a.w.d a.w.p a.datagram.now (fault_of c.check_parity.result) c.check_parity.ensures (ap fault_of c.in_ok-check_parity.was), c.check_parity_place.ensures.inside _ c.in_ok-found.was, one-missing a.marks.now g _ _ (sym (c.check_parity_place.ensures.looked _ c.in_ok-found.was) ∙ c.in-One.is), s.few-present, omega (arith, s.few-used, c.check_standing.auto, c.requires))

pub accept_held-offered-requires : goal.accept_held-offered-requires
accept_held-offered-requires c =
    let a = c.args in
    let x = parts a.media.now a.timestamps.now a.lengths.now a.marks.now a.parity.now a.rows.now in
    let s = stands a.w x a.len _ (fault_of c.check_standing.result) c.check_standing.ensures (ap fault_of c.in_ok-check_standing.was) in
    (s.long.parity-long, s.free-low (c.check_parity_place.ensures.room _ c.in_ok-found.was (rw c.in-More.is (omega arith))), parity-long a.stream a.w.l a.w.d a.w.p a.datagram.now (fault_of c.check_parity.result) c.check_parity.ensures (ap fault_of c.in_ok-check_parity.was), omega (arith, s.few-used, c.check_standing.auto, c.requires), s.set_up.p-high)

pub returns-in-None : goal.returns-in-None
returns-in-None c =
    let a = c.args in
    let x = parts a.media.now a.timestamps.now a.lengths.now a.marks.now a.parity.now a.rows.now in
    let g = group a.w a.stream (snbase a.datagram.now) in
    rw c.taken-offered.ensures (parity-spent a.w x a.len _ (fault_of c.check_standing.result) c.check_standing.ensures a.stream a.datagram.now (ap fault_of c.in_ok-check_standing.was) (fault_of c.check_parity.result) c.check_parity.ensures (ap fault_of c.in_ok-check_parity.was) (fault_of c.check_parity_place.result) c.check_parity_place.ensures.is (ap fault_of c.in_ok-found.was) (none-missing a.marks.now g _ (sym (c.check_parity_place.ensures.looked _ c.in_ok-found.was) ∙ c.in-None.is)))

pub returns-in-One : goal.returns-in-One
returns-in-One c =
    let a = c.args in
    let x = parts a.media.now a.timestamps.now a.lengths.now a.marks.now a.parity.now a.rows.now in
    parity-accepted a.w x a.len _ (fault_of c.check_standing.result) c.check_standing.ensures a.stream a.datagram.now (ap fault_of c.in_ok-check_standing.was) (fault_of c.check_parity.result) c.check_parity.ensures (ap fault_of c.in_ok-check_parity.was) (fault_of c.check_parity_place.result) c.check_parity_place.ensures.is (ap fault_of c.in_ok-found.was) c.accept_last-offered.result _ c.accept_last-offered.ensures

pub returns-in-More : goal.returns-in-More
returns-in-More c =
    let a = c.args in
    let x = parts a.media.now a.timestamps.now a.lengths.now a.marks.now a.parity.now a.rows.now in
    let g = group a.w a.stream (snbase a.datagram.now) in
    parity_held_lem a.w x a.len _ (fault_of c.check_standing.result) c.check_standing.ensures a.stream a.datagram.now (ap fault_of c.in_ok-check_standing.was) (fault_of c.check_parity.result) c.check_parity.ensures (ap fault_of c.in_ok-check_parity.was) (fault_of c.check_parity_place.result) c.check_parity_place.ensures.is (ap fault_of c.in_ok-found.was) (more-missing a.marks.now g _ (sym (c.check_parity_place.ensures.looked _ c.in_ok-found.was) ∙ c.in-More.is)) (c.check_parity_place.ensures.room _ c.in_ok-found.was (rw c.in-More.is (omega arith))) c.accept_held-offered.result _ c.accept_held-offered.ensures
