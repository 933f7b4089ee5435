-- `bundle_text::edition`: the number of the first two bytes.
use mathlib.Core.Path.{sym, ◌∙◌}
use borrow.Author.Tests.{lt-ltb, le-ltb}
use Rattle.bundle_judge.proofs.Cutting.{number_two}
use Rattle.bundle_text.specs.Seen.{stated}
use Rattle.bundle_text.proofs.edition.Goals as goal

pub returns-in_default : goal.returns-in_default
unfolding stated
returns-in_default c = rw (lt-ltb _ 2 c.in_default.len_below)

pub returns-in-len2-up : goal.returns-in-len2-up
unfolding stated
returns-in-len2-up c =
    rw (le-ltb _ 2 c.in-len2-up.len_at_least) (c.from_be_bytes.ensures ∙ sym (number_two 0 c.args.bundle.now c.in-len2-up.len_at_least))
