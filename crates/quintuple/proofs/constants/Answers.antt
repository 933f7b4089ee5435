-- `quintuple::constants`: each row is five entries of the table, and the table's rule is theirs.
use native.Mathlib.Omega.{arith}
use lib.Dec.{lit<}
use Rattle.bits.specs.Digit.{digit, number, bit, of_bits}
use Rattle.published.specs.Rounds.{P, step, constant}
use Rattle.primitives.specs.Words.{permuted}
use Rattle.round_words.specs.Arranged.{N, nibble_at, arranged, constant_word}
use Rattle.quintuple.proofs.Table.{five_from}
use Rattle.quintuple.proofs.constants.Goals as goal

pub returns-in-0 : goal.returns-in-0
unfolding digit number bit of_bits P step constant permuted N nibble_at arranged constant_word
returns-in-0 c = five_from c.args.i 0 c.in-0.is (lit< tt)

pub returns-in-5 : goal.returns-in-5
unfolding digit number bit of_bits P step constant permuted N nibble_at arranged constant_word
returns-in-5 c = five_from c.args.i 5 c.in-5.is (lit< tt)

pub returns-in-10 : goal.returns-in-10
unfolding digit number bit of_bits P step constant permuted N nibble_at arranged constant_word
returns-in-10 c = five_from c.args.i 10 c.in-10.is (lit< tt)

pub returns-in-15 : goal.returns-in-15
unfolding digit number bit of_bits P step constant permuted N nibble_at arranged constant_word
returns-in-15 c = five_from c.args.i 15 c.in-15.is (lit< tt)

pub returns-in-20 : goal.returns-in-20
unfolding digit number bit of_bits P step constant permuted N nibble_at arranged constant_word
returns-in-20 c = five_from c.args.i 20 c.in-20.is (lit< tt)

pub returns-in-25 : goal.returns-in-25
unfolding digit number bit of_bits P step constant permuted N nibble_at arranged constant_word
returns-in-25 c = five_from c.args.i 25 c.in-25.is (lit< tt)

pub returns-in-30 : goal.returns-in-30
unfolding digit number bit of_bits P step constant permuted N nibble_at arranged constant_word
returns-in-30 c = five_from c.args.i 30 c.in-30.is (lit< tt)

pub returns-in_default : goal.returns-in_default
unfolding digit number bit of_bits P step constant permuted N nibble_at arranged constant_word
returns-in_default c = five_from c.args.i 35 (omega arith) (lit< tt)
