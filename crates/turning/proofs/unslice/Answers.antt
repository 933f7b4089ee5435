-- `turning::unslice`: each slice at its place, turned, and saved.
use Rattle.packing.specs.Orders.{order_number}
use Rattle.turning.proofs.Blocks.{saves}
use Rattle.turning.proofs.unslice.Goals as goal

pub returns : goal.returns
returns c = saves (order_number c.args.order) _ _ _ c.leave.ensures c.turn.ensures _ c.save.ensures
