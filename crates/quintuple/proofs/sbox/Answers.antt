-- `quintuple::sbox` is the table, by a test at the sixteen nibbles for each of its four words.
use borrow.Author.Rules.{rules}
use Rattle.bits.specs.Digit.{bit, digit, of_bits, number}
use Rattle.bits.proofs.Reflect.{W, var, lit, and, or, xor}
use Rattle.published.specs.Rounds.{entry}
use Rattle.primitives.specs.declared.State.{State}
use Rattle.primitives.specs.Packed.{Words}
use Rattle.primitives.proofs.Blocks.{same_words}
use Rattle.quintuple.specs.Boxes.{boxed}
use Rattle.quintuple.proofs.Columns.{through_table}
use Rattle.quintuple.proofs.sbox.Goals as goal

-- the words as the code makes them, a step a line
abbrev a1 : W
a1 = xor (var 1) (and (var 0) (var 2))

abbrev a0 : W
a0 = xor (var 0) (and a1 (var 3))

abbrev a2 : W
a2 = xor (var 2) (or a0 a1)

abbrev a3 : W
a3 = xor (var 3) a2

abbrev b1 : W
b1 = xor a1 a3

abbrev b3 : W
b3 = xor a3 (lit 0xffffffff)

abbrev b2 : W
b2 = xor a2 (and a0 b1)

pub returns : goal.returns
unfolding boxed bit digit of_bits number entry
returns c =
    let s : State = c.args.s in
    let h : Words s = search rules in
    same_words _ _ (through_table entry a0 tt tt 3 tt s h) (through_table entry b1 tt tt 1 tt s h) (through_table entry b2 tt tt 2 tt s h)
    (through_table entry b3 tt tt 0 tt s h)
