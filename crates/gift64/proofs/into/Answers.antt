-- `gift64::into`: packed, taken through the rounds, unpacked into the other buffer.
use borrow.Author.Rules.{rules}
use Rattle.gift64.proofs.Crossing.{crossing}
use Rattle.gift64.proofs.into.Goals as goal

pub returns : goal.returns
returns c =
    let a = c.args in
    crossing a.back a.words.now c.packing_64-s.result c.through-t.result a.input.now a.output.now _ c.requires.input_len
    (search rules) c.requires.output_len c.packing_64-s.ensures c.through-t.ensures c.unpacking_64.ensures
