-- `slices::six_bits`: the first i bits of the constant are in.
use mathlib.Core.Path.{◌≡◌, ap, ◌∙◌}
use Prim.Native.Nat.{ℕ, ◌+◌, ◌*◌, ◌%◌, ◌^◌}
use native.Mathlib.Omega.{arith}
use Rattle.bits.specs.Digit.{bit}
use Rattle.bits.proofs.Computed.{agree}
use Rattle.slices.specs.Inner.{constant_bits, mask_by}
use Rattle.slices.proofs.Flips.{bit-everywhere, mask_is, flip_none, flip, no_bits, next_others, next_here}
use Rattle.slices.proofs.six_bits.Goals as goal

pub loop-i-init : goal.loop-i-init
loop-i-init c = flip_none (constant_bits 0 c.args.c) _ c.told-y (no_bits c.args.c)

pub loop-i-preserved : goal.loop-i-preserved
loop-i-preserved c =
    let l = c.loop-i in
    let k = c.args.c in
    let one : 1 * 2 ^ l.i % 2 ^ 32 ≡ 2 ^ l.i = agree 6 (λ i. 1 * 2 ^ i % 2 ^ 32) (λ i. 2 ^ i) tt l.i (omega arith) in
    flip (constant_bits l.i k) (constant_bits (l.i + 1) k) (4 * l.i + 3) c.mask.result (bit k l.i) (omega arith)
    (λ b h. ap (λ (w : ℕ). bit w b) (c.mask.ensures ∙ ap (mask_by k) one ∙ mask_is k l.i) ∙ bit-everywhere (bit k l.i) b h) (next_others l.i k) (next_here l.i k) l.invariant
