-- `differ_text::told_at`, number by number.
use Rattle.differ_text.specs.Pieces.{told_at}
use Rattle.differ_text.proofs.told_at.Goals as goal

pub returns : goal.returns
unfolding told_at
returns c =
    λ i.
    record {
      state = c.number_at.ensures i;
      id = 0;
      kind = c.number_at-2.ensures i;
      at = c.number_at-3.ensures i;
      len = c.number_at-4.ensures i;
    }
