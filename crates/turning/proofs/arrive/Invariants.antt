-- `turning::arrive`: the words below place q have come.
use Rattle.packing.specs.Orders.{order_number}
use Rattle.turning.specs.Inner.{inward_in}
use Rattle.turning.proofs.Passes.{Up, PlacedAt}
use Rattle.turning.proofs.arrive.Given as goal

abbrev pub invariant-loop-q : goal.invariant-loop-q
invariant-loop-q l = Up (PlacedAt (inward_in (order_number l.order)) l.x) l.q l.y
