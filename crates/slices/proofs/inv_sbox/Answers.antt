-- `slices::inv_sbox` is the table, by a test at the sixteen nibbles for each of its four words.
use Rattle.bits.specs.Digit.{bit, digit, of_bits, number}
use Rattle.bits.proofs.Reflect.{W, var, lit, and, or, xor}
use Rattle.bits.proofs.Columns.{through_table}
use Rattle.published.specs.Inner.{unentry}
use Rattle.slices.proofs.Nibbles.{boxed_by}
use Rattle.slices.proofs.inv_sbox.Goals as goal

-- the words as the code makes them, a step a line
abbrev a2 : W
a2 = xor (var 2) (and (var 3) (var 1))

abbrev a0 : W
a0 = xor (var 0) (lit 0xffffffffffffffff)

abbrev a1 : W
a1 = xor (var 1) a0

abbrev b0 : W
b0 = xor a0 a2

abbrev b2 : W
b2 = xor a2 (or (var 3) a1)

abbrev b3 : W
b3 = xor (var 3) (and a1 b0)

abbrev b1 : W
b1 = xor a1 (and b3 b2)

pub returns : goal.returns
unfolding bit digit of_bits number unentry
returns c =
    let s = c.args.s in
    boxed_by unentry s _ (through_table 64 unentry b3 tt 0 tt s.s0 s.s1 s.s2 s.s3) (through_table 64 unentry b1 tt 1 tt s.s0 s.s1 s.s2 s.s3)
    (through_table 64 unentry b2 tt 2 tt s.s0 s.s1 s.s2 s.s3) (through_table 64 unentry b0 tt 3 tt s.s0 s.s1 s.s2 s.s3)
