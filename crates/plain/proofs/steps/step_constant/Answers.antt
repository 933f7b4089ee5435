-- `plain::steps::step_constant`: five bits go up, and the sixth comes in below.
use mathlib.Core.Path.{◌≡◌, refl, ap, ap₂, ◌∙◌}
use mathlib.Core.Bool.{Bool, true, false}
use Prim.Native.Nat.{ℕ, ◌+◌, ◌*◌, ◌%◌}
use native.Mathlib.Omega.{arith}
use lib.Bits.{bit_xor}
use Rattle.bits.specs.Digit.{one, bit, ◌⊕◌}
use Rattle.bits.proofs.Bits.{one_lt}
use Rattle.published.specs.Rounds.{step}
use Rattle.plain.proofs.steps.step_constant.Goals.{After-bit-2}
use Rattle.plain.proofs.steps.step_constant.Goals as goal

xor_ones : (a b : Bool) → bit_xor (bit_xor (one a) (one b)) 1 ≡ one (a ⊕ b ⊕ true)
xor_ones false false = refl
xor_ones false true = refl
xor_ones true false = refl
xor_ones true true = refl

comes_in : (c : After-bit-2) → bit_xor (bit_xor c.bit.result c.bit-2.result) 1 ≡ one (bit c.args.c 5 ⊕ bit c.args.c 4 ⊕ true)
comes_in c = ap₂ (λ (x y : ℕ). bit_xor (bit_xor x y) 1) c.bit.ensures c.bit-2.ensures ∙ xor_ones (bit c.args.c 5) (bit c.args.c 4)

pub overflow_add-result : goal.overflow_add-result
overflow_add-result c = omega (arith, comes_in c, one_lt (bit c.args.c 5 ⊕ bit c.args.c 4 ⊕ true))

pub returns : goal.returns
unfolding step
returns c = ap (λ (x : ℕ). c.args.c % 32 * 2 + x) (comes_in c)
