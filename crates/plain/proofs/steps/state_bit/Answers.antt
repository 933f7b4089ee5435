-- `plain::steps::state_bit`: the bit of a nibble.
use mathlib.Core.Path.{sym, ap, ◌∙◌}
use Prim.Native.Nat.{◌/◌}
use native.Mathlib.Omega.{arith}
use Rattle.bits.specs.Digit.{one}
use Rattle.plain.proofs.Nibbles.{bit_state_of}
use Rattle.plain.proofs.steps.state_bit.Goals as goal

pub returns : goal.returns
returns c =
    c.bit.ensures ∙ ap one (sym (bit_state_of c.args.s.now c.requires.0.small c.args.q c.requires.1))

pub overflow_cast-s : goal.overflow_cast-s
overflow_cast-s c = omega (arith, c.shared_slice_known-2-1.given (c.args.q / 4))
