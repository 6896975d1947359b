use Rattle.std.proofs.Common.{◌≡◌, map, length, take}
use Rattle.parity.specs.Rows.{row_of, xor_lists}
use Rattle.parity.proofs.xor_own.Given as goal

abbrev pub invariant-loop-row : goal.invariant-loop-row
invariant-loop-row l =
    l.sum ≡ xor_lists (map (row_of l.p (length l.initial.sum) l.media l.lengths) (take l.row-index l.rows)) 0 (length l.initial.sum) l.initial.sum
