-- `window::Window::check_set_up` meets its contract: each return by the tests that led there.
use mathlib.Core.Path.{sym, ◌∙◌}
use Rattle.answer.specs.First.{first_hit, first_past, first-end}
use Rattle.window.specs.Bounds.{profile-good}
use Rattle.window.proofs.Window.check_set_up.Goals as goal

pub returns-then-bad_profile : goal.returns-then-bad_profile
returns-then-bad_profile c = first_hit _ _ _ (sym c.bad_profile.ensures ∙ c.if-bad_profile.true)

pub returns-then-bad_payload : goal.returns-then-bad_payload
returns-then-bad_payload c =
    first_past _ _ _ _ (sym c.bad_profile.ensures ∙ c.if-bad_profile.false)
    (first_hit _ _ _ (sym c.bad_payload.ensures ∙ c.if-bad_payload.true))

pub bad_room-requires : goal.bad_room-requires
bad_room-requires c =
    let p = profile-good c.args.self (sym c.bad_profile.ensures ∙ c.if-bad_profile.false) in
    (p.l-high, p.d-high)

pub returns-then-bad_room : goal.returns-then-bad_room
returns-then-bad_room c =
    first_past _ _ _ _ (sym c.bad_profile.ensures ∙ c.if-bad_profile.false)
    (first_past _ _ _ _ (sym c.bad_payload.ensures ∙ c.if-bad_payload.false)
    (first_hit _ _ _ (sym c.bad_room.ensures ∙ c.if-bad_room.true)))

pub returns : goal.returns
returns c =
    first_past _ _ _ _ (sym c.bad_profile.ensures ∙ c.if-bad_profile.false)
    (first_past _ _ _ _ (sym c.bad_payload.ensures ∙ c.if-bad_payload.false)
    (first_past _ _ _ _ (sym c.bad_room.ensures ∙ c.if-bad_room.false) first-end))
