-- `xor::lay` meets its contract: what is copied, and then zeros. Assumes nothing.
use Rattle.std.proofs.Common.{◌≡◌, ap, ◌∙◌, ℕ, ◌-◌, length, replicate, length-take, length-drop, length-append, arith}
use Rattle.xor.proofs.Turn.{lay-is}
use Rattle.xor.proofs.lay.Goals as goal

pub returns : goal.returns
returns c =
    let copied : length c.copy_from_slice.new.self ≡ length c.args.src.now = ap length c.copy_from_slice.ensures.after in
    let zeros : c.fill.new.self ≡ replicate (length c.args.dst.now - length c.args.src.now) 0 =
    c.fill.ensures.after (λ y e. e) ∙ ap (λ (n : ℕ). replicate n 0) (simp (length-take, length-drop, length-append) (omega arith)) in
    lay-is c.args.dst.now c.args.src.now c.copy_from_slice.new.self c.fill.new.self c.requires c.copy_from_slice.ensures.after zeros
