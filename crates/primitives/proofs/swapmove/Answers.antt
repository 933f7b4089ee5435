-- `primitives::swapmove` exchanges the bits that the mask names.
use Prim.Native.Nat.{◌%◌}
use Rattle.primitives.proofs.Swaps.{swap-low, swap-high}
use Rattle.primitives.proofs.swapmove.Goals as goal

pub returns : goal.returns
returns c = (
  swap-high c.args.a c.args.b c.args.mask (c.args.n % 32) c.ranges.a.fits c.ranges.b.fits c.ranges.mask.fits,
  swap-low c.args.a c.args.b c.args.mask (c.args.n % 32) c.ranges.a.fits c.ranges.b.fits c.ranges.mask.fits,
)
