-- `round_words::words`: its number first, and if that is 0 the words that stand for the pairs.
use mathlib.Core.Path.{◌∙◌}
use Rattle.round_words.proofs.Rows.{meant_left, words-told}
use Rattle.round_words.proofs.words.Goals as goal

pub returns : goal.returns
returns c =
    record {
      is = c.row.ensures.is;
      leaves = c.row.ensures.leaves ∙ meant_left c.args.pairs.now c.args.out.now _ _ (words-told c.args.pairs.now);
    }
