-- `offer::offer_media` meets its contract: each return is a way through the offer. Assumes nothing.
use Rattle.std.proofs.Common.{◌≡◌, List, ℕ, refl, sym, ap, ◌∙◌, length, arith}
use Rattle.std.proofs.lemmas.Result.{err_from_is_err_and}
use Rattle.answer.specs.Refused.{fault_of}
use Rattle.table.specs.declared.Row.{Row}
use Rattle.engine.specs.Round.{Parts}
use Rattle.offer.proofs.Tests.{media-long}
use Rattle.offer.proofs.Ways.{stands, serves, media-stands, media_wrong, media-placed, media-accepted}
use Rattle.offer.proofs.offer_media.Goals as goal

-- the parts of a store, by its lists
abbrev parts : (media timestamps lengths marks parity : List ℕ) → List Row → Parts
parts media timestamps lengths marks parity rows = record { media = media; timestamps = timestamps; lengths = lengths; marks = marks; parity = parity; rows = rows }

pub returns-in_err-check_standing : goal.returns-in_err-check_standing
returns-in_err-check_standing c =
    let a = c.args in
    let x = parts a.media.now a.timestamps.now a.lengths.now a.marks.now a.parity.now a.rows.now in
    let p = err_from_is_err_and c.from_residual.result c.from_residual.ensures.1 in
    rw (p.1, p.2) (record { offer = media-stands a.w x a.len _ (fault_of c.check_standing.result) c.check_standing.ensures a.datagram.now c.in_err-check_standing.field-0.0 (ap fault_of c.in_err-check_standing.was); held = tt })

pub returns-in_err-check_media : goal.returns-in_err-check_media
returns-in_err-check_media c =
    let a = c.args in
    let x = parts a.media.now a.timestamps.now a.lengths.now a.marks.now a.parity.now a.rows.now in
    let p = err_from_is_err_and c.from_residual-in_err-check_media.result c.from_residual-in_err-check_media.ensures.1 in
    rw (p.1, p.2) (record { offer = media_wrong a.w x a.len _ (fault_of c.check_standing.result) c.check_standing.ensures a.datagram.now (ap fault_of c.in_ok-check_standing.was) (fault_of c.check_media.result) c.check_media.ensures c.in_err-check_media.field-0.0 (ap fault_of c.in_err-check_media.was); held = tt })

pub check_media_place-requires : goal.check_media_place-requires
check_media_place-requires c =
    let a = c.args in
    let x = parts a.media.now a.timestamps.now a.lengths.now a.marks.now a.parity.now a.rows.now in
    let s = stands a.w x a.len _ (fault_of c.check_standing.result) c.check_standing.ensures (ap fault_of c.in_ok-check_standing.was) in
    (s.set_up, media-long a.w.p a.datagram.now (fault_of c.check_media.result) c.check_media.ensures (ap fault_of c.in_ok-check_media.was), s.long.media-long, s.long.timestamps-long, s.long.lengths-long, s.long.marks-long)

pub returns-in_err-i : goal.returns-in_err-i
returns-in_err-i c =
    let a = c.args in
    let x = parts a.media.now a.timestamps.now a.lengths.now a.marks.now a.parity.now a.rows.now in
    let p = err_from_is_err_and c.from_residual-in_err-i.result c.from_residual-in_err-i.ensures.1 in
    rw (p.1, p.2) (record { offer = media-placed a.w x a.len _ (fault_of c.check_standing.result) c.check_standing.ensures a.datagram.now (ap fault_of c.in_ok-check_standing.was) (fault_of c.check_media.result) c.check_media.ensures (ap fault_of c.in_ok-check_media.was) (fault_of c.check_media_place.result) c.check_media_place.ensures.fault c.in_err-i.field-0.0 (ap fault_of c.in_err-i.was); held = tt })

pub accept_media-requires : goal.accept_media-requires
accept_media-requires c =
    let a = c.args in
    let x = parts a.media.now a.timestamps.now a.lengths.now a.marks.now a.parity.now a.rows.now in
    let s = stands a.w x a.len _ (fault_of c.check_standing.result) c.check_standing.ensures (ap fault_of c.in_ok-check_standing.was) in
    let q = c.in_ok-i.ensures.place in
    (serves a.w x a.len _ (fault_of c.check_standing.result) c.check_standing.ensures (ap fault_of c.in_ok-check_standing.was), media-long a.w.p a.datagram.now (fault_of c.check_media.result) c.check_media.ensures (ap fault_of c.in_ok-check_media.was), q.0, q.1, q.2, s.few-present, omega (arith, s.few-used, c.check_standing.auto, c.requires))

pub returns : goal.returns
returns c =
    let a = c.args in
    let x = parts a.media.now a.timestamps.now a.lengths.now a.marks.now a.parity.now a.rows.now in
    record {
      offer = media-accepted a.w x a.len _ (fault_of c.check_standing.result) c.check_standing.ensures a.datagram.now (ap fault_of c.in_ok-check_standing.was) (fault_of c.check_media.result) c.check_media.ensures (ap fault_of c.in_ok-check_media.was) (fault_of c.check_media_place.result) c.check_media_place.ensures.fault (ap fault_of c.in_ok-i.was) c.accept_media.result _ c.accept_media.ensures.0;
      held = c.accept_media.ensures.1;
    }
