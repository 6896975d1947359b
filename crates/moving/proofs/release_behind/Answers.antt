-- `moving::release_behind` meets its contract: after i turns each of the first i rows that begins behind is released. Assumes nothing.
use Rattle.std.proofs.Common.{◌≡◌, refl, ap, ◌∙◌, ℕ, length, arith}
use Rattle.window.specs.declared.Window.{Window}
use Rattle.table.specs.Fold.{below}
use Rattle.engine.specs.Rows.{free_if, free_below}
use Rattle.engine.proofs.Free.{desk}
use Rattle.engine.proofs.Turns.{frees_start, frees_asks, frees_more}
use Rattle.moving.specs.Rows.{row_behind}
use Rattle.moving.proofs.release_behind.Goals as goal

pub loop-i-init : goal.loop-i-init
loop-i-init c = let a = c.args in (frees_start (row_behind a.w.base a.by) a.w a.parity.now a.rows.now c.requires.0, refl, refl)

pub release_row-v-requires : goal.release_row-v-requires
release_row-v-requires c =
    let a = c.args in
    let l = c.loop-i in
    frees_asks (row_behind a.w.base a.by) a.w (desk a.w a.parity.now a.rows.now) l.i (desk l.v l.parity l.rows) l.invariant.0 (omega (arith, l.invariant.2)) (omega (arith, c.requires.1, l.invariant.1))

pub loop-i-preserved : goal.loop-i-preserved
loop-i-preserved c =
    let a = c.args in
    let l = c.loop-i in
    let r = c.release_row-v in
    let same : l.v.base ≡ a.w.base = ap (λ (v : Window). v.base) l.invariant.0.same in
    (frees_more (row_behind a.w.base a.by) a.w (desk a.w a.parity.now a.rows.now) l.i (desk l.v l.parity l.rows) l.invariant.0 (omega (arith, l.invariant.2)) _ (r.ensures ∙ ap (λ (b : ℕ). free_if (row_behind b a.by) l.i (desk l.v l.parity l.rows)) same), omega (arith, r.auto, l.invariant.1), omega (arith, r.auto, l.invariant.2))

pub returns : goal.returns
unfolding free_below
returns c =
    let a = c.args in
    let l = c.loop-i in
    let e : l.i ≡ length a.rows.now = omega arith in
    l.invariant.0.is ∙ ap (λ (n : ℕ). below (free_if (row_behind a.w.base a.by)) n (desk a.w a.parity.now a.rows.now)) e
