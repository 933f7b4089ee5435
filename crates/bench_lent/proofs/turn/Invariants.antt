-- `bench_lent::turn`: what holds each time before one more turn is made.
use mathlib.Core.Path.{◌≡◌}
use lib.ListN.{length}
use Rattle.bench_orders.specs.Orders.{lane_count}
use Rattle.bench_turns.proofs.Rest.{Rest}
use Rattle.bench_lent.specs.Lent.{bench_of}
use Rattle.bench_lent.proofs.turn.Given as goal

-- There are as many records as lanes, which `turn_once` asks for.
-- The turns that are left, made from here, give what all of them give from the start.
abbrev pub invariant-loop-made : goal.invariant-loop-made
invariant-loop-made l = (length l.lanes ≡ lane_count) × Rest l.asked (bench_of l.fn.lanes l.last) l.made (bench_of l.lanes l.latest)
