-- `sender::Sender::media` meets its contract. Each return is a way through `offered`. Assumes nothing.
use Rattle.std.proofs.Common.{sym, ap, subst, ◌∙◌, length}
use Rattle.answer.specs.Refused.{refusal_number, fault_of}
use Rattle.answer.proofs.Refused.{never_0, passes}
use Rattle.sender.specs.Sums.{lent}
use Rattle.sender.specs.Ready.{Ready, offer-taken}
use Rattle.sender.specs.Absorbed.{ready-absorbed}
use Rattle.sender.proofs.Ways.{offer-stops, offer-done}
use Rattle.sender.proofs.Sender.media.Goals as goal

pub returns-in-Err : goal.returns-in-Err
returns-in-Err c =
    let a = c.args in
    let r = c.in-Err.refusal in
    rw c.refused.ensures
    (offer-stops a.self a.datagram.now a.row a.column (lent a.payloads.now a.timestamps.now a.lengths.now a.longest.now) a.row_out.now a.column_out.now (refusal_number r) (sym (ap fault_of c.in-Err.is) ∙ c.check_offer.ensures) (never_0 r))

pub send_column-columns-requires : goal.send_column-columns-requires
send_column-columns-requires c =
    let a = c.args in
    let t = offer-taken a.self a.datagram.now (lent a.payloads.now a.timestamps.now a.lengths.now a.longest.now) (length a.row_out.now) (length a.column_out.now) (sym c.check_offer.ensures ∙ passes c.check_offer.result c.in_default.not-Err) in
    (t.ready, t.column-long)

pub absorb-requires : goal.absorb-requires
absorb-requires c =
    let a = c.args in
    let t = offer-taken a.self a.datagram.now (lent a.payloads.now a.timestamps.now a.lengths.now a.longest.now) (length a.row_out.now) (length a.column_out.now) (sym c.check_offer.ensures ∙ passes c.check_offer.result c.in_default.not-Err) in
    (t.ready, t.payload)

pub send_row-rows-requires : goal.send_row-rows-requires
send_row-rows-requires c =
    let a = c.args in
    let t = offer-taken a.self a.datagram.now (lent a.payloads.now a.timestamps.now a.lengths.now a.longest.now) (length a.row_out.now) (length a.column_out.now) (sym c.check_offer.ensures ∙ passes c.check_offer.result c.in_default.not-Err) in
    (subst (Ready a.self) (sym c.absorb.ensures) (ready-absorbed a.self (lent a.payloads.now a.timestamps.now a.lengths.now a.longest.now) a.datagram.now t.ready t.payload), t.row-long)

pub onward-requires : goal.onward-requires
onward-requires c =
    let a = c.args in
    let t = offer-taken a.self a.datagram.now (lent a.payloads.now a.timestamps.now a.lengths.now a.longest.now) (length a.row_out.now) (length a.column_out.now) (sym c.check_offer.ensures ∙ passes c.check_offer.result c.in_default.not-Err) in
    (t.ready.set_up, t.ready.at_low)

pub returns : goal.returns
returns c =
    let a = c.args in
    offer-done a.self a.datagram.now a.row a.column (lent a.payloads.now a.timestamps.now a.lengths.now a.longest.now) a.row_out.now a.column_out.now (sym c.check_offer.ensures ∙ passes c.check_offer.result c.in_default.not-Err) _ _ _ c.onward.result
    c.send_column-columns.ensures c.absorb.ensures c.send_row-rows.ensures c.onward.ensures
