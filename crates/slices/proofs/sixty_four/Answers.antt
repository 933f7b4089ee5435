-- `slices::sixty_four`: loaded, taken through the rounds, saved.
use mathlib.Core.Path.{refl, ◌∙◌}
use Rattle.bits.proofs.Computed.{cond-true}
use Rattle.slices.proofs.Groups.{group_made, fits_whole}
use Rattle.slices.proofs.sixty_four.Goals as goal

pub returns : goal.returns
returns c =
    let done = c.through.ensures in
    group_made c.args.order c.args.back c.args.masks.now c.args.input.now _ _ _
    (c.to_slices.ensures.lanes (fits_whole _ _ c.requires.0 refl)) done (c.from_slices.ensures ∙ cond-true _ _ _ (fits_whole _ _ c.requires.1 done.size))
