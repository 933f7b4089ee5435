-- `quintuple::consts::round_constant`: the table's rule, and 0 past its end.
use mathlib.Core.Path.{sym, ◌∙◌}
use borrow.Author.Tests.{lt-ltb, le-ltb}
use Rattle.bits.specs.Digit.{digit, number, bit, of_bits}
use Rattle.bits.proofs.Computed.{cond-true, cond-false}
use Rattle.published.specs.Rounds.{P, step, constant}
use Rattle.primitives.specs.Words.{permuted}
use Rattle.round_words.specs.Arranged.{N, nibble_at, arranged, constant_word}
use Rattle.quintuple.proofs.Table.{at_round}
use Rattle.quintuple.proofs.consts.round_constant.Goals as goal

pub returns-then-r-lt40 : goal.returns-then-r-lt40
unfolding digit number bit of_bits P step constant permuted N nibble_at arranged constant_word
returns-then-r-lt40 c = at_round c.args.r c.if-r-lt40.true ∙ sym (cond-true _ _ _ (lt-ltb _ 40 c.if-r-lt40.true))

pub returns-else-r-lt40 : goal.returns-else-r-lt40
returns-else-r-lt40 c = sym (cond-false _ _ _ (le-ltb _ 40 c.if-r-lt40.false))
