-- `plain::steps::xor_bit`: the nibble in which the bit stands gets it.
use Rattle.plain.proofs.Flips.{flipped}
use Rattle.plain.proofs.steps.xor_bit.Goals as goal

pub returns : goal.returns
returns c =
    flipped c.args.s.now c.args.q c.args.b c.requires.nibbles.small c.requires.q_bound c.requires.b_bound
