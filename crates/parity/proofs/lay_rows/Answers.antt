-- `parity::lay_rows` meets its contract: both ways give the same. Assumes nothing.
use Rattle.std.proofs.Common.{sym, ap, ◌∙◌, ℕ, map, length, replicate}
use Rattle.std.proofs.lemmas.List.{length-replicate}
use Rattle.xor.specs.Xor.{xor_payloads}
use Rattle.parity.specs.Rows.{row_of, xor_lists}
use Rattle.parity.proofs.Whole.{laid-whole, as-they-lie}
use Rattle.parity.proofs.lay_rows.Goals as goal

pub returns-then-full : goal.returns-then-full
returns-then-full c =
    let a = c.args in
    let n : ℕ = length a.sum.now in
    let all = c.requires.3 c.if-full.true in
    c.sum_rows.ensures
    ∙ as-they-lie n a.media.now a.lengths.now a.rows.now (replicate n 0) (length-replicate n 0) (rw all.0 c.requires.1) (λ i h. all.1 i h ∙ sym all.0)
    ∙ laid-whole n n a.media.now a.lengths.now a.rows.now
    ∙ ap (λ (k : ℕ). xor_payloads n (map (row_of k n a.media.now a.lengths.now) a.rows.now)) all.0

pub returns-else-full : goal.returns-else-full
returns-else-full c =
    let a = c.args in
    let n : ℕ = length a.sum.now in
    c.xor_own.ensures
    ∙ ap (λ (k : ℕ). xor_lists (map (row_of a.p k a.media.now a.lengths.now) a.rows.now) 0 k c.fill.new.self) c.fill.ensures.len
    ∙ ap (xor_lists (map (row_of a.p n a.media.now a.lengths.now) a.rows.now) 0 n) (c.fill.ensures.after (λ y e. e))
    ∙ laid-whole a.p n a.media.now a.lengths.now a.rows.now
