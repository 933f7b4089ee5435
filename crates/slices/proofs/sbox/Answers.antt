-- `slices::sbox` is the table, by a test at the sixteen nibbles for each of its four words.
use Rattle.bits.specs.Digit.{bit, digit, of_bits, number}
use Rattle.bits.proofs.Reflect.{W, var, lit, and, or, xor}
use Rattle.bits.proofs.Columns.{through_table}
use Rattle.published.specs.Rounds.{entry}
use Rattle.slices.proofs.Nibbles.{boxed_by}
use Rattle.slices.proofs.sbox.Goals as goal

-- the words as the code makes them, a step a line
abbrev a1 : W
a1 = xor (var 1) (and (var 0) (var 2))

abbrev a0 : W
a0 = xor (var 0) (and a1 (var 3))

abbrev a2 : W
a2 = xor (var 2) (or a0 a1)

abbrev a3 : W
a3 = xor (var 3) a2

abbrev b1 : W
b1 = xor a1 a3

abbrev b3 : W
b3 = xor a3 (lit 0xffffffffffffffff)

abbrev b2 : W
b2 = xor a2 (and a0 b1)

pub returns : goal.returns
unfolding bit digit of_bits number entry
returns c =
    let s = c.args.s in
    boxed_by entry s _ (through_table 64 entry b3 tt 0 tt s.s0 s.s1 s.s2 s.s3) (through_table 64 entry b1 tt 1 tt s.s0 s.s1 s.s2 s.s3)
    (through_table 64 entry b2 tt 2 tt s.s0 s.s1 s.s2 s.s3) (through_table 64 entry a0 tt 3 tt s.s0 s.s1 s.s2 s.s3)
