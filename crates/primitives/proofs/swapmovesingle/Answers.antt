-- `primitives::swapmovesingle` exchanges the bits that the mask names within one word.
use Prim.Native.Nat.{◌%◌}
use Rattle.primitives.proofs.Swaps.{swap_single}
use Rattle.primitives.proofs.swapmovesingle.Goals as goal

pub returns : goal.returns
returns c = swap_single c.args.a c.args.mask (c.args.n % 32) c.ranges.a.fits c.ranges.mask.fits
