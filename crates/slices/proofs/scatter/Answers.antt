-- `slices::scatter`: the first 16 g bits are right.
use Prim.Native.Nat.{◌*◌}
use native.Mathlib.Omega.{arith}
use Rattle.slices.proofs.Nibbles.{all_scattered}
use Rattle.slices.proofs.scatter.Goals as goal

pub returns : goal.returns
returns c = all_scattered _ _ _ (16 * c.loop-g.g) (omega arith) c.loop-g.invariant
