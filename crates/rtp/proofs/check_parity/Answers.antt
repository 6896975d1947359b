-- `rtp::check_parity` meets its contract: each return by the tests that led there.
use Rattle.std.proofs.Common.{not, sym, ap, ◌∙◌}
use borrow.Author.Tests.{lt-ltb, le-ltb, eq-eqb, ne_eqb}
use Rattle.answer.specs.First.{first_hit, first_past, first-end}
use Rattle.rtp.proofs.check_parity.Goals as goal

pub returns-then-g-lt-PARITY_HEADERS : goal.returns-then-g-lt-PARITY_HEADERS
returns-then-g-lt-PARITY_HEADERS c =
    first_hit _ _ _ (lt-ltb _ _ c.if-g-lt-PARITY_HEADERS.true)

pub returns-then-bad_rtp : goal.returns-then-bad_rtp
returns-then-bad_rtp c =
    first_past _ _ _ _ (le-ltb _ _ c.if-g-lt-PARITY_HEADERS.false) (first_hit _ _ _ (sym c.bad_rtp.ensures ∙ c.if-bad_rtp.true))

pub returns-then-payload_type-ne-PARITY_TYPE : goal.returns-then-payload_type-ne-PARITY_TYPE
returns-then-payload_type-ne-PARITY_TYPE c =
    first_past _ _ _ _ (le-ltb _ _ c.if-g-lt-PARITY_HEADERS.false) (first_past _ _ _ _ (sym c.bad_rtp.ensures ∙ c.if-bad_rtp.false) (first_hit _ _ _ (ap not (ne_eqb _ _ (λ e. c.if-payload_type-ne-PARITY_TYPE.true (c.payload_type.ensures ∙ e))))))

pub returns-then-not-good_length : goal.returns-then-not-good_length
returns-then-not-good_length c =
    first_past _ _ _ _ (le-ltb _ _ c.if-g-lt-PARITY_HEADERS.false) (first_past _ _ _ _ (sym c.bad_rtp.ensures ∙ c.if-bad_rtp.false) (first_past _ _ _ _ (ap not (eq-eqb _ _ (sym c.payload_type.ensures ∙ c.if-payload_type-ne-PARITY_TYPE.false))) (first_hit _ _ _ (ap not (sym c.good_length.ensures ∙ c.if-not-good_length.true)))))

pub returns-then-bad_fec : goal.returns-then-bad_fec
returns-then-bad_fec c =
    first_past _ _ _ _ (le-ltb _ _ c.if-g-lt-PARITY_HEADERS.false) (first_past _ _ _ _ (sym c.bad_rtp.ensures ∙ c.if-bad_rtp.false) (first_past _ _ _ _ (ap not (eq-eqb _ _ (sym c.payload_type.ensures ∙ c.if-payload_type-ne-PARITY_TYPE.false))) (first_past _ _ _ _ (ap not (sym c.good_length.ensures ∙ c.if-not-good_length.false)) (first_hit _ _ _ (sym c.bad_fec.ensures ∙ c.if-bad_fec.true)))))

pub returns-then-bad_recovery : goal.returns-then-bad_recovery
returns-then-bad_recovery c =
    first_past _ _ _ _ (le-ltb _ _ c.if-g-lt-PARITY_HEADERS.false) (first_past _ _ _ _ (sym c.bad_rtp.ensures ∙ c.if-bad_rtp.false) (first_past _ _ _ _ (ap not (eq-eqb _ _ (sym c.payload_type.ensures ∙ c.if-payload_type-ne-PARITY_TYPE.false))) (first_past _ _ _ _ (ap not (sym c.good_length.ensures ∙ c.if-not-good_length.false)) (first_past _ _ _ _ (sym c.bad_fec.ensures ∙ c.if-bad_fec.false) (first_hit _ _ _ (sym c.bad_recovery.ensures ∙ c.if-bad_recovery.true))))))

pub returns-then-bad_profile : goal.returns-then-bad_profile
returns-then-bad_profile c =
    first_past _ _ _ _ (le-ltb _ _ c.if-g-lt-PARITY_HEADERS.false) (first_past _ _ _ _ (sym c.bad_rtp.ensures ∙ c.if-bad_rtp.false) (first_past _ _ _ _ (ap not (eq-eqb _ _ (sym c.payload_type.ensures ∙ c.if-payload_type-ne-PARITY_TYPE.false))) (first_past _ _ _ _ (ap not (sym c.good_length.ensures ∙ c.if-not-good_length.false)) (first_past _ _ _ _ (sym c.bad_fec.ensures ∙ c.if-bad_fec.false) (first_past _ _ _ _ (sym c.bad_recovery.ensures ∙ c.if-bad_recovery.false) (first_hit _ _ _ (sym c.bad_profile.ensures ∙ c.if-bad_profile.true)))))))

pub returns : goal.returns
returns c =
    first_past _ _ _ _ (le-ltb _ _ c.if-g-lt-PARITY_HEADERS.false) (first_past _ _ _ _ (sym c.bad_rtp.ensures ∙ c.if-bad_rtp.false) (first_past _ _ _ _ (ap not (eq-eqb _ _ (sym c.payload_type.ensures ∙ c.if-payload_type-ne-PARITY_TYPE.false))) (first_past _ _ _ _ (ap not (sym c.good_length.ensures ∙ c.if-not-good_length.false)) (first_past _ _ _ _ (sym c.bad_fec.ensures ∙ c.if-bad_fec.false) (first_past _ _ _ _ (sym c.bad_recovery.ensures ∙ c.if-bad_recovery.false) (first_past _ _ _ _ (sym c.bad_profile.ensures ∙ c.if-bad_profile.false) first-end))))))
