-- `parity::add_rows` meets its contract: both ways give the same. Assumes nothing.
use Rattle.std.proofs.Common.{refl, ◌∙◌, ℕ, length}
use Rattle.parity.proofs.Whole.{over-whole, as-they-lie}
use Rattle.parity.proofs.add_rows.Goals as goal

pub returns-then-all_full : goal.returns-then-all_full
returns-then-all_full c =
    let a = c.args in
    let p : ℕ = length a.sum.now in
    c.xor_rows.ensures
    ∙ as-they-lie p a.media.now a.lengths.now a.rows.now a.sum.now refl c.requires.0 (c.all_full.ensures c.if-all_full.true)
    ∙ over-whole p p a.media.now a.lengths.now a.rows.now a.sum.now refl

pub returns-else-all_full : goal.returns-else-all_full
returns-else-all_full c =
    let a = c.args in
    let p : ℕ = length a.sum.now in
    c.xor_own.ensures ∙ over-whole p p a.media.now a.lengths.now a.rows.now a.sum.now refl
