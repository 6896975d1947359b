-- `moving::slide` meets its contract: after some turns the elements before `at` have moved down. Assumes nothing.
use Rattle.std.proofs.Common.{◌≡◌, ap, ◌∙◌, List, ℕ, ◌≤◌, ◌+◌, ◌-◌, length, take, drop, arith}
use Rattle.std.proofs.Math.Seq.{paste}
use Rattle.moving.proofs.Blocks.{slid, slid-more, slid-long, slid-paste, joined}
use Rattle.moving.proofs.slide.Goals as goal

pub loop-at-preserved : goal.loop-at-preserved
loop-at-preserved g c =
    let a = c.args in
    let l = c.loop-at in
    let size = c.min-size.result in
    let low : size ≤ a.m = omega arith in
    let long : l.at + a.m ≤ length a.part.now = omega (arith, c.requires) in
    let s = c.split_at_mut-front.ensures in
    let k : l.at + size - l.at ≡ size = omega arith in
    let is = rw (s.front, s.back) (joined l.part c.copy_from_slice.new.self l.at size a.m (l.at + size - l.at) k low (c.copy_from_slice.ensures.after ∙ ap (take size) s.back))
    ∙ ap (λ (p : List _). paste p l.at (drop (l.at + a.m) p) size) l.invariant.1 ∙ slid-more a.m a.part.now l.at long size in
    (omega arith, is, ap length is ∙ slid-long a.m a.part.now (l.at + size) (omega arith))

pub returns : goal.returns
returns g c =
    let a = c.args in
    let l = c.loop-at in
    let e : l.at ≡ a.n - a.m = omega arith in
    l.invariant.1 ∙ ap (λ (k : ℕ). slid a.m k a.part.now) e ∙ slid-paste a.m (a.n - a.m) a.part.now
