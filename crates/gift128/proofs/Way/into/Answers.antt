-- `gift128::Way::into`: packed, taken through the rounds, unpacked into the other buffer.
use borrow.Author.Rules.{rules}
use Rattle.packing.specs.Orders.{order_number}
use Rattle.packing.proofs.Inverse.{is_order_number}
use Rattle.gift128.proofs.Blocks.{crossing}
use Rattle.gift128.proofs.Way.into.Goals as goal

pub returns : goal.returns
returns c =
    crossing (order_number c.args.self.order) (is_order_number c.args.self.order) c.args.self.back c.args.self.words.now c.packing-s.result c.through-t.result c.args.input.now c.args.output.now _
    c.requires.input_len (search rules) c.requires.output_len
    (rw c.from-order.ensures at c.packing-s.ensures) c.through-t.ensures (rw c.from-order.ensures at c.unpacking.ensures)
