-- `round_words::pairs`: its number first, and if that is 0 the pairs that the words stand for.
use mathlib.Core.Path.{◌∙◌}
use Rattle.round_words.proofs.Rows.{meant_left, pairs-told}
use Rattle.round_words.proofs.pairs.Goals as goal

pub returns : goal.returns
returns c =
    record {
      is = c.row.ensures.is;
      leaves = c.row.ensures.leaves ∙ meant_left c.args.words.now c.args.out.now _ _ (pairs-told c.args.words.now);
    }
