-- `turning::slice`: loaded, turned, and each slice at its place.
use Rattle.packing.specs.Orders.{order_number}
use Rattle.turning.proofs.Blocks.{loads}
use Rattle.turning.proofs.slice.Goals as goal

pub returns : goal.returns
returns c =
    loads _ c.told-input c.fits-input (order_number c.args.order) _ _ _ c.load.ensures c.turn.ensures c.arrive.ensures
