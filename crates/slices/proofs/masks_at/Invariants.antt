-- `slices::masks_at`: the masks below i.
use Rattle.std.proofs.Common.{◌≡◌, ℕ, ◌<◌, get_or}
use Rattle.slices.specs.Inner.{mask_by}
use Rattle.slices.proofs.masks_at.Given as goal

abbrev pub invariant-loop-i : goal.invariant-loop-i
invariant-loop-i l = (k : ℕ) → k < l.i → get_or l.out k 0 ≡ mask_by l.word (get_or l.places k 0)
