-- `sender::send` meets its contract.
use Rattle.std.proofs.Common.{◌≡◌, ◌≤◌, ℕ, List, ◌+◌, ◌*◌, ◌-◌, ◌∙◌, refl, sym, length, get_or, take, drop, length-drop, length-take-le, arith}
use Rattle.std.proofs.lemmas.Slice.{put_mid-paste}
use Rattle.sender.proofs.Ways.{sent-packet, pasted-part}
use Rattle.sender.proofs.send.Goals as goal

pub returns : goal.returns
returns c =
    let a = c.args in
    let m = a.sums in
    let size : ℕ = get_or m.longest.now a.slot 0 in
    let from : ℕ = a.slot * a.s.p in
    let y : List ℕ = drop from m.payloads.now in
    let room : size ≤ length y = simp length-drop (omega (arith, c.requires.3.payload-ends, c.requires.4)) in
    let n : from + size - from ≡ size = omega arith in
    let q : c.copy_from_slice.new.self ≡ take size y = rw (← n) c.copy_from_slice.ensures.after in
    let e = put_mid-paste 28 (28 + size - 28) a.out.now c.copy_from_slice.new.self (take size y) size q (omega arith) (sym (length-take-le size y room)) in
    sent-packet a.s a.o a.stream a.back a.slot m.payloads.now m.timestamps.now m.lengths.now m.longest.now a.out.now _ _ c.next.result c.position-snbase.result size
    c.requires.3.payload-ends c.requires.4 c.requires.5 refl c.next.ensures c.position-snbase.ensures (e ∙ pasted-part a.out.now y 28 size) c.write_parity.ensures
