-- `parity::xor_rows` meets its contract: tens, fours, and the rest. Assumes nothing.
use Rattle.std.proofs.Common.{◌≡◌, ap, ◌∙◌, ℕ, List, ◌-◌, length, take, drop, take_all, arith}
use Rattle.xor.specs.Xor.{xor_parts}
use Rattle.parity.specs.Rows.{places}
use Rattle.parity.proofs.Turns.{after}
use Rattle.parity.proofs.xor_rows.Goals as goal

pub returns : goal.returns
returns c =
    let a = c.args in
    let tens = c.xor_groups-tens in
    let fours = c.xor_groups-fours in
    let last = c.xor_groups in
    let r : List ℕ = take (length a.rows.now - tens.result) (drop tens.result a.rows.now) in
    let q : List ℕ = take (length r - fours.result) (drop fours.result r) in
    let n : ℕ = length fours.new.sum in
    let all : last.new.sum ≡ xor_parts a.media.now (places n q) 0 n fours.new.sum =
    last.ensures.2 ∙ ap (λ (l : List ℕ). xor_parts a.media.now (places n l) 0 n fours.new.sum) (take_all last.result q (omega (arith, last.ensures.1))) in
    after a.media.now a.sum.now a.rows.now tens.new.sum last.new.sum (length a.sum.now) (length tens.new.sum) tens.result tens.auto.sum tens.ensures.2
    (after a.media.now tens.new.sum r fours.new.sum last.new.sum (length tens.new.sum) n fours.result fours.auto.sum fours.ensures.2 all)
