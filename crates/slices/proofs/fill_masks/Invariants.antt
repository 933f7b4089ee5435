-- `slices::fill_masks`: the masks of the words below r.
use Rattle.std.proofs.Common.{◌≡◌, ◌*◌, length}
use Rattle.bits.proofs.Fills.{Fills}
use Rattle.slices.proofs.Keys.{MaskAt}
use Rattle.slices.proofs.fill_masks.Given as goal

abbrev pub invariant-loop-r : goal.invariant-loop-r
invariant-loop-r l = (length l.masks ≡ 2560) × Fills (λ i. i) (MaskAt l.rkey) (32 * l.r) l.masks
