-- `engine::settle` meets its contract: what is left to do comes to what was to be done. Assumes nothing.
use Rattle.std.proofs.Common.{◌≡◌, ◌-◌, ◌+◌, ℕ, subst, refl, arith}
use Rattle.engine.proofs.Going.{Going, going_start, going_on, going_rest, going_done}
use Rattle.engine.proofs.settle.Invariants.{parts}
use Rattle.engine.proofs.settle.Goals as goal

pub loop-round-preserved : goal.loop-round-preserved
loop-round-preserved c =
    let a = c.args in
    let l = c.loop-round in
    let r = c.one_round-r in
    let x = parts a.media.now a.timestamps.now a.lengths.now a.marks.now a.parity.now a.rows.now in
    let y = parts l.media l.timestamps l.lengths l.marks l.parity l.rows in
    let z = parts r.new.media r.new.timestamps r.new.lengths r.new.marks r.new.parity r.new.rows in
    let e : a.w.in_use - l._round - 1 ≡ a.w.in_use - (l._round + 1) = omega arith in (
      subst (λ (n : ℕ). Going a.w x r.result.window z (l.rebuilt + r.result.rebuilt) (l.spoilt + r.result.spoilt) n) e (going_on a.w x l.v y l.rebuilt l.spoilt (a.w.in_use - l._round) l.invariant.0 r.result z (omega (arith, c.loop-round-test.true)) r.ensures c.if-r-eq0.false),
      omega (arith, r.auto, l.invariant.1),
      omega (arith, r.auto, l.invariant.2),
      omega (arith, r.auto, l.invariant.3),
      omega (arith, r.auto, l.invariant.4),
      omega (arith, r.auto, l.invariant.5),
      omega (arith, r.auto, l.invariant.6),
    )

pub returns-after-loop-round : goal.returns-after-loop-round
returns-after-loop-round c =
    let a = c.args in
    let l = c.loop-round in
    going_done a.w (parts a.media.now a.timestamps.now a.lengths.now a.marks.now a.parity.now a.rows.now) l.v (parts l.media l.timestamps l.lengths l.marks l.parity l.rows) l.rebuilt l.spoilt (a.w.in_use - l._round) l.invariant.0 (omega (arith, c.loop-round-test.false))

pub returns-then-r-eq0 : goal.returns-then-r-eq0
returns-then-r-eq0 c =
    let a = c.args in
    let l = c.loop-round in
    going_rest a.w (parts a.media.now a.timestamps.now a.lengths.now a.marks.now a.parity.now a.rows.now) l.v (parts l.media l.timestamps l.lengths l.marks l.parity l.rows) l.rebuilt l.spoilt (a.w.in_use - l._round) l.invariant.0 c.one_round-r.result _ c.one_round-r.ensures c.if-r-eq0.true
