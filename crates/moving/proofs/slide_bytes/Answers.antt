-- `moving::slide_bytes` meets its contract: after some turns the bytes before `at` have moved down. Assumes nothing.
use Rattle.std.proofs.Common.{◌≡◌, sym, ap, ◌∙◌, List, ◌++◌, ℕ, ◌+◌, ◌-◌, ◌≤◌, length, take, drop, take_all, take_at, length-append, length-drop, length-take-le, arith}
use Rattle.std.proofs.Math.Seq.{paste}
use Rattle.std.proofs.lemmas.Slice.{put_mid-paste}
use Rattle.moving.proofs.Blocks.{slid-more, slid-long}
use Rattle.moving.proofs.slide_bytes.Goals as goal

-- bytes that went through a block
through : (ys zs block back : List ℕ) (size : ℕ) → ys ≡ take size back → size ≤ length back → zs ≡ take size (ys ++ drop size block) → zs ≡ take size back
through ys zs block back size e h f = f ∙ take_at ys (drop size block) size (ap length e ∙ length-take-le size back h) ∙ e

-- and were laid over a part
pasted : (p back : List ℕ) (at size : ℕ) → size ≤ length back → paste p at (take size back) size ≡ paste p at back size
pasted p back at size h = ap (λ (q : List ℕ). (take at p ++ q) ++ drop (at + size) p) (take_all size (take size back) (omega (arith, length-take-le size back h)))

pub loop-at-preserved : goal.loop-at-preserved
loop-at-preserved c =
    let a = c.args in
    let l = c.loop-at in
    let size = c.min-size.result in
    let back : List ℕ = drop (l.at + a.m) l.part in
    let long : l.at + a.m ≤ length a.part.now = omega (arith, c.requires) in
    let enough : size ≤ length back = simp length-drop (omega (arith, c.requires, l.invariant.2)) in
    let k : l.at + a.m + size - (l.at + a.m) ≡ size = omega arith in
    let first = c.copy_from_slice.ensures.after ∙ ap (λ (n : ℕ). take n back) k in
    let second = through c.copy_from_slice.new.self c.copy_from_slice-in-loop-at.new.self l.block back size first enough c.copy_from_slice-in-loop-at.ensures.after in
    let is =
    put_mid-paste l.at (l.at + size - l.at) l.part c.copy_from_slice-in-loop-at.new.self (take size back) size second (omega arith) (sym (length-take-le size back enough))
    ∙ pasted l.part back l.at size enough
    ∙ ap (λ (p : List ℕ). paste p l.at (drop (l.at + a.m) p) size) l.invariant.1 ∙ slid-more a.m a.part.now l.at long size in
    (omega arith, is, ap length is ∙ slid-long a.m a.part.now (l.at + size) (omega (arith, c.requires)), simp (length-append, length-drop) (omega (arith, ap length first, length-take-le size back enough, l.invariant.3)))
