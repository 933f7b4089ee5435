-- `bundle_reader::right_tag`, as the check of a tag tells it.
use mathlib.Core.Path.{◌∙◌}
use Rattle.bundle_reader.proofs.Steps.{tag-told}
use Rattle.bundle_reader.proofs.right_tag.Goals as goal

pub returns : goal.returns
returns c = c.unwrap_or.ensures ∙ tag-told c.args.key.now c.args.b.now _ _ _ _ c.requires.key_len c.requires.in_bounds c.split_at.ensures.front c.split_at.ensures.back c.check.ensures
