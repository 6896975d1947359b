-- `parity::xor_groups` meets its contract: N rows more each turn. Assumes nothing.
use Rattle.std.proofs.Common.{◌≡◌, ◌≤◌, ap, ◌∙◌, ℕ, List, ◌+◌, ◌*◌, ◌-◌, length, take, drop, length-drop, arith}
use Rattle.xor.specs.Xor.{xor_parts}
use Rattle.parity.specs.Rows.{places}
use Rattle.parity.proofs.Turns.{place-ends, rest_is, rows_rest, rows_more, group_fits}
use Rattle.parity.proofs.xor_groups.Goals as goal

pub xor_parts-requires : goal.xor_parts-requires
xor_parts-requires g c =
    let a = c.args in
    let k : ℕ = c.loop-group.group * g.row.N in
    let fits : k + g.row.N ≤ length a.rows.now = group_fits (length a.rows.now) g.row.N c.loop-group.group c.requires.0 c.loop-group-test.true in
    let rest : length (take (length a.rows.now - k) (drop k a.rows.now)) ≡ length a.rows.now - k = ap length (rest_is a.rows.now k) ∙ length-drop k a.rows.now in (
      omega arith,
      λ j h. rw c.loop-group.auto.sum
          (place-ends (length a.sum.now) (length a.media.now) (take (length a.rows.now - k) (drop k a.rows.now)) g.row.N j c.places_of-places.result c.places_of-places.ensures
          (rows_rest (length a.sum.now) (length a.media.now) a.rows.now k c.requires.1) h (omega arith)),
    )

pub loop-group-preserved : goal.loop-group-preserved
loop-group-preserved g c =
    let a = c.args in
    let l = c.loop-group in
    let p : ℕ = length a.sum.now in
    let k : ℕ = l.group * g.row.N in
    let next : k + g.row.N ≡ (l.group + 1) * g.row.N = omega arith in
    c.xor_parts.ensures
    ∙ ap (λ (n : ℕ). xor_parts a.media.now c.places_of-places.result 0 n l.sum) l.auto.sum
    ∙ ap (λ (s : List ℕ). xor_parts a.media.now s 0 p l.sum) (c.places_of-places.ensures ∙ ap (λ (r : List ℕ). places p (take g.row.N r)) (rest_is a.rows.now k))
    ∙ ap (xor_parts a.media.now (places p (take g.row.N (drop k a.rows.now))) 0 p) l.invariant
    ∙ rows_more a.media.now 0 p a.sum.now a.rows.now k g.row.N ((l.group + 1) * g.row.N) next
