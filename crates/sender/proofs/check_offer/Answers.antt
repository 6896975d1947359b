-- `sender::check_offer` meets its contract.
use Rattle.std.proofs.Common.{sym, ◌∙◌, refl}
use Rattle.std.proofs.lemmas.Result.{err_from_is_err_and}
use Rattle.answer.specs.First.{first_hit, first_past, first-end}
use Rattle.answer.specs.Refused.{refusal_number}
use Rattle.answer.proofs.Refused.{never_0}
use Rattle.rtp.specs.Faults.{media_tests}
use Rattle.sender.proofs.Ways.{stops, goes}
use Rattle.sender.proofs.check_offer.Goals as goal

pub returns-in_err-check_standing : goal.returns-in_err-check_standing
returns-in_err-check_standing c =
    let p = err_from_is_err_and c.from_residual.result c.from_residual.ensures.1 in
    let r = c.in_err-check_standing.field-0.0 in
    rw (p.1, p.2) (stops _ _ (refusal_number r) c.in_err-check_standing.ensures (never_0 r))

pub returns-in_err-check_media : goal.returns-in_err-check_media
returns-in_err-check_media c =
    let a = c.args in
    let p = err_from_is_err_and c.from_residual-in_err-check_media.result c.from_residual-in_err-check_media.ensures.1 in
    let r = c.in_err-check_media.field-0.0 in
    rw (p.1, p.2) (goes _ _ _ c.in_ok-check_standing.ensures (tt, (tt, (tt, (tt, tt)))) refl _ (stops (media_tests a.s.p a.datagram.now) _ (refusal_number r) c.in_err-check_media.ensures (never_0 r)))

pub returns-then-out_of_turn : goal.returns-then-out_of_turn
returns-then-out_of_turn c =
    let a = c.args in
    goes _ _ _ c.in_ok-check_standing.ensures (tt, (tt, (tt, (tt, tt)))) refl _
    (goes (media_tests a.s.p a.datagram.now) _ _ c.in_ok-check_media.ensures (tt, (tt, (tt, (tt, tt)))) refl _ (first_hit _ _ _ (sym c.out_of_turn.ensures ∙ c.if-out_of_turn.true)))

pub returns : goal.returns
returns c =
    let a = c.args in
    goes _ _ _ c.in_ok-check_standing.ensures (tt, (tt, (tt, (tt, tt)))) refl _
    (goes (media_tests a.s.p a.datagram.now) _ _ c.in_ok-check_media.ensures (tt, (tt, (tt, (tt, tt)))) refl _ (first_past _ _ _ _ (sym c.out_of_turn.ensures ∙ c.if-out_of_turn.false) first-end))
