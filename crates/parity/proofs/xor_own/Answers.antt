-- `parity::xor_own` meets its contract: one row a turn, at its own length. Assumes nothing.
use Rattle.std.proofs.Common.{◌≡◌, ◌⊎◌, inl, inr, sym, ap, ◌∙◌, ℕ, List, min, ◌<◌, ◌≤◌, ◌+◌, ◌*◌, ◌-◌, length, get_or, take, drop, length-drop, length-take-le, take-take, arith}
use Rattle.std.proofs.Math.Decide.{dec_lt}
use Rattle.xor.specs.Xor.{xor_at, padded}
use Rattle.xor.specs.Padded.{padded-cut, xor-padded}
use Rattle.parity.specs.Rows.{row_of}
use Rattle.parity.specs.Own.{lists_more}
use Rattle.parity.proofs.xor_own.Goals as goal

-- the smaller of a length and a size
smaller : (n most m : ℕ) → m ≡ min n most → (m ≡ n) ⊎ ((m ≡ most) × (most ≤ n))
smaller n most m e = go (dec_lt n most)
  where
    go : Dec (n < most) → (m ≡ n) ⊎ ((m ≡ most) × (most ≤ n))
    go (yes h) = inl (omega arith)
    go (no h) = inr (omega arith, omega arith)

-- a row at its own length, but no more than `most` bytes
one-row : (p most : ℕ) (media lengths d new : List ℕ) (row m k : ℕ) → most ≤ p → length d ≡ most → row * p + p ≤ length media → m ≡ min (get_or lengths row 0) most → k ≡ m
    → new ≡ xor_at d 0 (take k (drop (row * p) media)) (length (take k (drop (row * p) media))) → new ≡ xor_at d 0 (row_of p most media lengths row) most
one-row p most media lengths d new row m k hp ed hm em ek e =
    let s : List ℕ = drop (row * p) media in
    let ls = length-drop (row * p) media in
    let ld : length (take k s) ≡ k = length-take-le k s (omega arith) in
    e ∙ ap (xor_at d 0 (take k s)) ld
    ∙ xor-padded d 0 (take k s) k most (omega arith) (omega arith) (omega arith)
    ∙ ap (λ (l : List ℕ). xor_at d 0 (padded most l) most) (take-take k k s (omega arith))
    ∙ ap (λ (l : List ℕ). xor_at d 0 l most) (sym (padded-cut (get_or lengths row 0) k most s (smaller (get_or lengths row 0) most k (omega arith)) (omega arith)))

pub loop-row-preserved : goal.loop-row-preserved
loop-row-preserved c =
    let l = c.loop-row in
    let a = c.args in
    let s = c.requires in
    let most : ℕ = length a.sum.now in
    let row : ℕ = get_or a.rows.now l.row-index 0 in
    let k : row * a.p + c.min-size.result - row * a.p ≡ c.min-size.result = omega arith in
    one-row a.p most a.media.now a.lengths.now l.sum c.xor_into.new.dst row c.min-size.result (row * a.p + c.min-size.result - row * a.p) s.0 l.auto.sum (s.1 l.row-index (omega arith)) (c.min-size.ensures ∙ ap (min (get_or a.lengths.now row 0)) l.auto.sum) k c.xor_into.ensures
    ∙ ap (λ (d : List ℕ). xor_at d 0 (row_of a.p most a.media.now a.lengths.now row) most) l.invariant
    ∙ lists_more (row_of a.p most a.media.now a.lengths.now) a.rows.now l.row-index 0 most a.sum.now (omega arith)
