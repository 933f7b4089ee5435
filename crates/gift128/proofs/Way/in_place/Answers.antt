-- `gift128::Way::in_place`: packed, taken through the rounds, unpacked.
use mathlib.Core.List.{List}
use Prim.Native.Nat.{ℕ}
use borrow.Author.Rules.{rules}
use Rattle.packing.specs.Orders.{order_number}
use Rattle.packing.proofs.Inverse.{is_order_number}
use Rattle.gift128.proofs.Blocks.{crossing}
use Rattle.gift128.proofs.Way.in_place.Goals as goal

pub returns : goal.returns
returns c =
    let block : List ℕ = c.args.block.now in
    crossing (order_number c.args.self.order) (is_order_number c.args.self.order) c.args.self.back c.args.self.words.now c.packing-s.result c.through-t.result block block _
    c.requires.block_len (search rules) c.requires.block_len
    (rw c.from-order.ensures at c.packing-s.ensures) c.through-t.ensures (rw c.from-order.ensures at c.unpacking.ensures)
