-- `Text::push_hex` holds, at each turn, the digits of the bytes passed so far.
use native.Mathlib.Omega.{arith}
use Rattle.text.specs.Hex.{hex_of}
use Rattle.text.proofs.Texts.{adds-nothing, adds_one}
use Rattle.text.proofs.Numerals.{hex_of-append}
use Rattle.text.proofs.Text.push_hex.Goals as goal

pub loop-b-init : goal.loop-b-init
unfolding hex_of
loop-b-init c = adds-nothing c.args.self.now

pub loop-b-preserved : goal.loop-b-preserved
loop-b-preserved c =
    adds_one hex_of hex_of-append c.args.bs.now c.loop-b.b-index (omega arith) _ _ _ c.loop-b.invariant c.push_byte.ensures
