-- `slices::unforty`: two rounds a turn.
use Rattle.std.proofs.Common.{◌≡◌, ℕ, suc, ◌+◌, ◌-◌, ◌*◌, ◌<◌, arith}
use Rattle.slices.proofs.Rounding.{undone_none, undone_more, undone_all, constant_at_lem, key_at_lem}
use Rattle.slices.proofs.unforty.Goals as goal

pub loop-n-init : goal.loop-n-init
loop-n-init c = undone_none _ _ c.told-x

pub loop-n-preserved : goal.loop-n-preserved
loop-n-preserved c =
    let r : ℕ = 2 * (c.loop-n.n - 1) in
    let key = λ (k : ℕ) (h : k < 40). key_at_lem _ _ k c.as_chunks.ensures.front c.told-masks h in
    let one : r + 1 ≡ suc r = omega arith in
    let two : 2 * c.loop-n.n ≡ suc (r + 1) = omega arith in
    undone_more _ _ r (r + 1) one (omega arith) (key r (omega arith)) (constant_at_lem r (omega arith)) (undone_more _ _ (r + 1) _ two (omega arith) (key (r + 1) (omega arith)) (constant_at_lem (r + 1) (omega arith)) c.loop-n.invariant c.unround.ensures) c.unround-in-loop-n.ensures

pub returns : goal.returns
returns c = undone_all _ _ _ (2 * c.loop-n.n) (omega arith) c.loop-n.invariant
