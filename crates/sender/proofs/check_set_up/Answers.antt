-- `sender::check_set_up` meets its contract.
use Rattle.std.proofs.Common.{sym, ◌∙◌}
use Rattle.answer.specs.First.{first_hit, first_past, first-end}
use Rattle.sender.proofs.check_set_up.Goals as goal

pub returns-then-bad_profile : goal.returns-then-bad_profile
returns-then-bad_profile c = first_hit _ _ _ (sym c.bad_profile.ensures ∙ c.if-bad_profile.true)

pub returns-then-bad_payload : goal.returns-then-bad_payload
returns-then-bad_payload c = first_past _ _ _ _ (sym c.bad_profile.ensures ∙ c.if-bad_profile.false) (first_hit _ _ _ (sym c.bad_payload.ensures ∙ c.if-bad_payload.true))

pub returns : goal.returns
returns c = first_past _ _ _ _ (sym c.bad_profile.ensures ∙ c.if-bad_profile.false) (first_past _ _ _ _ (sym c.bad_payload.ensures ∙ c.if-bad_payload.false) first-end)
