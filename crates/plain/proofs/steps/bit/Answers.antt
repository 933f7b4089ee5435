-- `plain::steps::bit`: the word shifted down and cut to its lowest bit.
use mathlib.Core.Path.{sym, ◌∙◌}
use Prim.Native.Nat.{◌/◌, ◌^◌}
use native.Mathlib.Omega.{arith}
use lib.Bits.{and_le_r, and_mask}
use Rattle.bits.specs.Digit.{digit}
use Rattle.bits.proofs.Bits.{one_bit}
use Rattle.plain.proofs.steps.bit.Goals as goal

pub returns : goal.returns
unfolding digit
returns c = and_mask (c.args.x / 2 ^ c.args.i) 1 ∙ sym (one_bit c.args.x c.args.i)

pub overflow_cast-result-2 : goal.overflow_cast-result-2
overflow_cast-result-2 c = omega (arith, and_le_r (c.args.x / 2 ^ c.args.i) 1)
