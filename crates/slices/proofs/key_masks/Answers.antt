-- `slices::key_masks`: by the table of places.
use Rattle.slices.proofs.Keys.{places_right}
use Rattle.slices.proofs.key_masks.Goals as goal

pub fill_masks-requires : goal.fill_masks-requires
fill_masks-requires c = places_right
