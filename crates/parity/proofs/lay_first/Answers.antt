-- `parity::lay_first` meets its contract. Assumes nothing.
use Rattle.std.proofs.Common.{length, arith}
use Rattle.parity.proofs.Turns.{place-ends}
use Rattle.parity.proofs.lay_first.Goals as goal

pub xor_parts-requires : goal.xor_parts-requires
xor_parts-requires g c =
    let a = c.args in
    (omega arith, λ k h. place-ends (length a.sum.now) (length a.media.now) a.rows.now g.row.N k c.places_of-places.result c.places_of-places.ensures c.requires.1 h c.requires.0)
