-- `bench_turns::seek` finds the first running lane in cyclic order: the lanes that are left to look at tell it, as none passed runs.
use mathlib.Core.Path.{◌≡◌}
use Prim.Native.Nat.{◌-◌}
use Rattle.bench_orders.specs.Orders.{lane_count}
use Rattle.bench_turns.specs.Turning.{seek}
use Rattle.bench_turns.proofs.seek.Given as goal

abbrev pub invariant-loop-passed : goal.invariant-loop-passed
invariant-loop-passed l = seek (lane_count - l._passed) l.lanes l.i ≡ seek lane_count l.lanes l.from
