-- `slices::gather`: the first 16 g bits are right.
use Prim.Native.Nat.{◌*◌}
use native.Mathlib.Omega.{arith}
use Rattle.slices.proofs.Nibbles.{all_gathered}
use Rattle.slices.proofs.gather.Goals as goal

pub returns : goal.returns
returns c = all_gathered _ _ _ (16 * c.loop-g.g) (omega arith) c.loop-g.invariant
