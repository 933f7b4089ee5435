-- `turning::leave`: the words below place i have come.
use Rattle.packing.specs.Orders.{order_number}
use Rattle.turning.specs.Inner.{outward_in, pairwise}
use Rattle.turning.proofs.Passes.{Up, PlacedAt}
use Rattle.turning.proofs.leave.Given as goal

abbrev pub invariant-loop-i : goal.invariant-loop-i
invariant-loop-i l = Up (PlacedAt (λ k. outward_in (order_number l.order) (pairwise k)) l.x) l.i l.y
