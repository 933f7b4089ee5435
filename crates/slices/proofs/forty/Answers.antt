-- `slices::forty`: two rounds a turn.
use Rattle.std.proofs.Common.{◌≡◌, ℕ, suc, ◌+◌, ◌*◌, ◌<◌, arith}
use Rattle.slices.proofs.Rounding.{rest_all, rest_less, rest_none, constant_at_lem, key_at_lem}
use Rattle.slices.proofs.forty.Goals as goal

pub loop-n-init : goal.loop-n-init
loop-n-init c = rest_all _ _ c.told-x

pub loop-n-preserved : goal.loop-n-preserved
loop-n-preserved c =
    let r : ℕ = 2 * c.loop-n.n in
    let key = λ (k : ℕ) (h : k < 40). key_at_lem _ _ k c.as_chunks.ensures.front c.told-masks h in
    let one : r + 1 ≡ suc r = omega arith in
    let two : 2 * (c.loop-n.n + 1) ≡ suc (r + 1) = omega arith in
    rest_less _ _ (r + 1) _ two (key (r + 1) (omega arith)) (constant_at_lem (r + 1) (omega arith)) (rest_less _ _ r (r + 1) one (key r (omega arith)) (constant_at_lem r (omega arith)) c.loop-n.invariant c.round.ensures) c.round-in-loop-n.ensures

pub returns : goal.returns
returns c = rest_none _ _ _ (2 * c.loop-n.n) (omega arith) c.loop-n.invariant
