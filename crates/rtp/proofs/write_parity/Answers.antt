-- `rtp::write_parity` meets its contract: the numbers fit their bytes, and the two headers are one. Assumes nothing.
use native.Mathlib.Omega.{arith}
use lib.Dec.{eqb}
use Rattle.rtp.proofs.Headers.{headers_laid, by_na-le, side_le}
use Rattle.rtp.proofs.write_parity.Goals as goal

pub overflow_cast-offset : goal.overflow_cast-offset
overflow_cast-offset c =
    let a = c.args in
    omega (arith, c.offset_of-offset.ensures, side_le (eqb a.stream 0) a.l 1 255 c.requires.2 (omega arith))

pub overflow_cast-kind : goal.overflow_cast-kind
overflow_cast-kind c = omega (arith, c.by_na-kind.ensures, by_na-le c.na_of-na.result 33)

pub overflow_cast-na : goal.overflow_cast-na
overflow_cast-na c =
    let a = c.args in
    omega (arith, c.na_of-na.ensures, side_le (eqb a.stream 0) a.d a.l 255 c.requires.3 c.requires.2)

pub write_fec-requires : goal.write_fec-requires
write_fec-requires c =
    (omega (arith, c.requires.0, c.write_rtp.auto), omega (arith, c.by_na-kind.ensures, by_na-le c.na_of-na.result 33), c.requires.1)

pub returns : goal.returns
returns c =
    let a = c.args in
    headers_laid a.stream a.l a.d a.snbase a.size a.stamps a.sequence a.timestamp a.ssrc
    c.na_of-na.result c.offset_of-offset.result c.by_na-kind.result a.out.now _ _ c.na_of-na.ensures c.offset_of-offset.ensures c.by_na-kind.ensures c.write_rtp.ensures c.write_fec.ensures
