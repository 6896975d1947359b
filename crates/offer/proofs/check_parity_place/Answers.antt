-- `offer::check_parity_place` meets its contract: each return by the tests that led there. Assumes nothing.
use mathlib.Core.Path.{sym, ap, ◌∙◌}
use Prim.Native.Nat.{ℕ}
use Rattle.rtp.specs.Fec.{snbase}
use Rattle.window.specs.Group.{group, inside}
use Rattle.window.specs.Look.{look}
use Rattle.window.specs.Plain.{inside_of}
use Rattle.offer.proofs.Place.{no_13, no_14, no_15, no_18, no_16, none_of_them}
use native.Mathlib.Omega.{arith}
use Rattle.offer.proofs.check_parity_place.Goals as goal

pub returns-then-not-group_inside : goal.returns-then-not-group_inside
returns-then-not-group_inside c =
    let the-args = c.args in
    let the-pre = c.requires in
    let the-snbase = c.snbase-snbase in
    let the-group-inside = c.group_inside in
    let the-if1 = c.if-not-group_inside in
    no_13 the-args.w the-args.stream the-args.datagram.now the-args.media.now the-args.timestamps.now the-args.lengths.now the-args.marks.now the-args.parity.now the-args.rows.now the-snbase.result the-snbase.ensures (sym the-group-inside.ensures ∙ the-if1.true)

pub any_same-requires : goal.any_same-requires
any_same-requires c =
    let the-pre = c.requires in
    (the-pre.3, the-pre.2, the-pre.4)

pub returns-then-any_same : goal.returns-then-any_same
returns-then-any_same c =
    let the-args = c.args in
    let the-pre = c.requires in
    let the-snbase = c.snbase-snbase in
    let the-group-inside = c.group_inside in
    let the-if1 = c.if-not-group_inside in
    let the-any-same = c.any_same in
    let the-if2 = c.if-any_same in
    no_14 the-args.w the-args.stream the-args.datagram.now the-args.media.now the-args.timestamps.now the-args.lengths.now the-args.marks.now the-args.parity.now the-args.rows.now the-snbase.result the-snbase.ensures (sym the-group-inside.ensures ∙ the-if1.false) the-any-same.result the-any-same.ensures the-if2.true

pub returns-then-any_holds : goal.returns-then-any_holds
returns-then-any_holds c =
    let the-args = c.args in
    let the-pre = c.requires in
    let the-snbase = c.snbase-snbase in
    let the-group-inside = c.group_inside in
    let the-if1 = c.if-not-group_inside in
    let the-any-same = c.any_same in
    let the-if2 = c.if-any_same in
    let the-any-holds = c.any_holds in
    let the-if3 = c.if-any_holds in
    no_15 the-args.w the-args.stream the-args.datagram.now the-args.media.now the-args.timestamps.now the-args.lengths.now the-args.marks.now the-args.parity.now the-args.rows.now the-snbase.result the-snbase.ensures (sym the-group-inside.ensures ∙ the-if1.false) the-any-same.result the-any-same.ensures the-if2.false the-any-holds.result the-any-holds.ensures the-if3.true

pub look-found-requires : goal.look-found-requires
look-found-requires c =
    let the-pre = c.requires in
    let the-args = c.args in
    let the-good = c.well_formed in
    let the-snbase = c.snbase-snbase in
    let the-group-inside = c.group_inside in
    let the-if1 = c.if-not-group_inside in
    (the-pre.0, inside_of the-args.w (omega (arith, the-good)) the-pre.0 the-args.stream the-snbase.result (sym the-group-inside.ensures ∙ the-if1.false), the-pre.1)

pub contradicts-requires : goal.contradicts-requires
contradicts-requires c =
    let the-pre = c.requires in
    let the-args = c.args in
    let the-good = c.well_formed in
    let the-snbase = c.snbase-snbase in
    let the-group-inside = c.group_inside in
    let the-if1 = c.if-not-group_inside in
    let inside = ap (inside the-args.w the-args.stream) (sym the-snbase.ensures) ∙ sym the-group-inside.ensures ∙ the-if1.false in (
      the-pre.0,
      inside_of the-args.w (omega (arith, the-good)) the-pre.0 the-args.stream (snbase the-args.datagram.now) inside,
      c.look-found.ensures.0 ∙ ap (λ (n : ℕ). look the-args.marks.now (group the-args.w the-args.stream n)) the-snbase.ensures,
      the-pre.4,
      the-pre.5,
      the-pre.6,
      the-pre.7,
      the-pre.1,
      the-pre.8,
    )

pub returns-then-contradicts : goal.returns-then-contradicts
returns-then-contradicts c =
    let the-args = c.args in
    let the-pre = c.requires in
    let the-snbase = c.snbase-snbase in
    let the-group-inside = c.group_inside in
    let the-if1 = c.if-not-group_inside in
    let the-any-same = c.any_same in
    let the-if2 = c.if-any_same in
    let the-any-holds = c.any_holds in
    let the-if3 = c.if-any_holds in
    let the-contradicts = c.contradicts in
    no_18 the-args.w the-args.stream the-args.datagram.now the-args.media.now the-args.timestamps.now the-args.lengths.now the-args.marks.now the-args.parity.now the-args.rows.now the-snbase.result the-snbase.ensures (sym the-group-inside.ensures ∙ the-if1.false) the-any-same.result the-any-same.ensures the-if2.false the-any-holds.result the-any-holds.ensures the-if3.false the-contradicts.result the-contradicts.ensures c.if-contradicts.true

pub returns-then-waits-w : goal.returns-then-waits-w
returns-then-waits-w c =
    let the-args = c.args in
    let the-pre = c.requires in
    let the-snbase = c.snbase-snbase in
    let the-group-inside = c.group_inside in
    let the-if1 = c.if-not-group_inside in
    let the-any-same = c.any_same in
    let the-if2 = c.if-any_same in
    let the-any-holds = c.any_holds in
    let the-if3 = c.if-any_holds in
    let the-contradicts = c.contradicts in
    let the-look = c.look-found in
    no_16 the-args.w the-args.stream the-args.datagram.now the-args.media.now the-args.timestamps.now the-args.lengths.now the-args.marks.now the-args.parity.now the-args.rows.now the-snbase.result the-snbase.ensures (sym the-group-inside.ensures ∙ the-if1.false) the-any-same.result the-any-same.ensures the-if2.false the-any-holds.result the-any-holds.ensures the-if3.false the-contradicts.result the-contradicts.ensures c.if-contradicts.false the-look.result the-look.ensures.0 c.waits.result c.waits.ensures c.if-waits-w.true

pub returns : goal.returns
returns c =
    let the-args = c.args in
    let the-pre = c.requires in
    let the-snbase = c.snbase-snbase in
    let the-group-inside = c.group_inside in
    let the-if1 = c.if-not-group_inside in
    let the-any-same = c.any_same in
    let the-if2 = c.if-any_same in
    let the-any-holds = c.any_holds in
    let the-if3 = c.if-any_holds in
    let the-contradicts = c.contradicts in
    let the-look = c.look-found in
    none_of_them the-args.w the-args.stream the-args.datagram.now the-args.media.now the-args.timestamps.now the-args.lengths.now the-args.marks.now the-args.parity.now the-args.rows.now the-snbase.result the-snbase.ensures (sym the-group-inside.ensures ∙ the-if1.false) the-any-same.result the-any-same.ensures the-if2.false the-any-holds.result the-any-holds.ensures the-if3.false the-contradicts.result the-contradicts.ensures c.if-contradicts.false the-look.result the-look.ensures.0 c.waits.result c.waits.ensures (omega (arith, c.well_formed)) the-pre.0 c.if-waits-w.false
