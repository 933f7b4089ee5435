-- `slices::add_constant`: its six bits, and the highest.
use Rattle.slices.proofs.Flips.{constant_added}
use Rattle.slices.proofs.add_constant.Goals as goal

pub returns : goal.returns
returns c = constant_added _ c.six_bits.ensures c.highest.ensures
