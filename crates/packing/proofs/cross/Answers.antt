-- `packing::cross` is step k, by the test of its places.
use mathlib.Core.Path.{ap, ◌∙◌}
use mathlib.Core.List.{[], ◌∷◌}
use Prim.Native.Nat.{ℕ}
use Rattle.bits.proofs.Reflect.{value}
use Rattle.packing.proofs.Steps.{far, far_lt, swap, step}
use Rattle.packing.proofs.cross.Goals as goal

pub overflow_shr-t : goal.overflow_shr-t
overflow_shr-t c = far_lt c.args.k c.requires.0

pub overflow_shl-result : goal.overflow_shl-result
overflow_shl-result c = far_lt c.args.k c.requires.0

pub returns : goal.returns
returns c =
    ap (λ (mask : ℕ). value 64 (c.args.x ∷ []) (swap (far c.args.k) mask)) c.requires.1
    ∙ step c.args.k c.requires.0 c.args.x c.ranges.x.fits
