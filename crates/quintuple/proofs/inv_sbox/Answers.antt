-- `quintuple::inv_sbox` is the inverse table, by a test at the sixteen nibbles for each of its four words.
use borrow.Author.Rules.{rules}
use Rattle.bits.specs.Digit.{bit, digit, of_bits, number}
use Rattle.bits.proofs.Reflect.{W, var, lit, and, or, xor}
use Rattle.published.specs.Inner.{unentry}
use Rattle.primitives.specs.declared.State.{State}
use Rattle.primitives.specs.Packed.{Words}
use Rattle.primitives.proofs.Blocks.{same_words}
use Rattle.quintuple.specs.Boxes.{boxed}
use Rattle.quintuple.proofs.Columns.{through_table}
use Rattle.quintuple.proofs.inv_sbox.Goals as goal

-- the words as the code makes them, a step a line
abbrev a2 : W
a2 = xor (var 2) (and (var 3) (var 1))

abbrev a0 : W
a0 = xor (var 0) (lit 0xffffffff)

abbrev a1 : W
a1 = xor (var 1) a0

abbrev b0 : W
b0 = xor a0 a2

abbrev b2 : W
b2 = xor a2 (or (var 3) a1)

abbrev b3 : W
b3 = xor (var 3) (and a1 b0)

abbrev b1 : W
b1 = xor a1 (and b3 b2)

pub returns : goal.returns
unfolding boxed bit digit of_bits number unentry
returns c =
    let s : State = c.args.s in
    let h : Words s = search rules in
    same_words _ _ (through_table unentry b0 tt tt 3 tt s h) (through_table unentry b1 tt tt 1 tt s h) (through_table unentry b2 tt tt 2 tt s h)
    (through_table unentry b3 tt tt 0 tt s h)
