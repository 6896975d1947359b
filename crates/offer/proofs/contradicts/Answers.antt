-- `offer::contradicts` meets its contract: what the look found, then what the group defines. Assumes nothing.
use mathlib.Core.Path.{sym, ap, subst, ◌∙◌}
use mathlib.Core.List.{[]}
use Prim.Native.Nat.{ℕ}
use Rattle.sequence.specs.Lists.{any}
use Rattle.window.specs.Store.{stored}
use Rattle.window.specs.Group.{group, is_missing}
use Rattle.window.specs.Plain.{Inside}
use Rattle.rtp.specs.Fec.{parity_header_size}
use lib.ListN.{length-drop}
use Rattle.offer.proofs.Tests.{carried_is}
use Rattle.offer.proofs.Place.{uncontradicted, whole-group, contradicted}
use native.Mathlib.Omega.{arith}
use Rattle.offer.proofs.contradicts.Goals as goal

pub returns-then-lacks : goal.returns-then-lacks
returns-then-lacks c =
    let a = c.args in
    λ parity t. uncontradicted a.w a.stream a.datagram.now (stored a.media.now a.timestamps.now a.lengths.now a.marks.now parity t) a.found c.requires.2 c.lacks.result c.lacks.ensures c.if-lacks.true

pub defines-requires : goal.defines-requires
defines-requires c =
    let a = c.args in
    let p = c.requires in
    let e = c.snbase.ensures in
    let s = stored a.media.now a.timestamps.now a.lengths.now a.marks.now [] [] in (
      p.0,
      subst (Inside a.w a.stream) (sym e) p.1,
      ap (λ (n : ℕ). any (is_missing a.marks.now) (group a.w a.stream n)) e ∙ whole-group a.w a.stream a.datagram.now s a.found p.2 c.lacks.result c.lacks.ensures c.if-lacks.false,
      rw c.recovery_of.ensures.2 (rw (length-drop parity_header_size a.datagram.now) (omega (arith, p.3.1))),
      p.4,
      p.5,
      p.6,
      p.7,
      p.8,
    )

pub returns : goal.returns
returns c =
    let a = c.args in
    let r = c.recovery_of in
    λ parity t.
    contradicted a.w a.stream a.datagram.now (stored a.media.now a.timestamps.now a.lengths.now a.marks.now parity t) a.found c.requires.2 c.lacks.result c.lacks.ensures c.if-lacks.false
    c.snbase.result c.snbase.ensures _ (carried_is a.w.p a.datagram.now _ _ _ r.ensures.0 r.ensures.1 r.ensures.2) c.defines.result (c.defines.ensures parity t)
