-- `key_schedule::moved`: the parts that are left, beside those that are in.
use mathlib.Core.Path.{◌≡◌}
use Prim.Native.Nat.{◌-◌}
use lib.ListN.{length, drop}
use Rattle.key_schedule.specs.InnerMoves.{beside}
use Rattle.key_schedule.proofs.moved.Given as goal

abbrev pub invariant-loop-part : goal.invariant-loop-part
invariant-loop-part g l = beside l.y (drop l.part-index l.part-items) l.x ≡ beside 0 l.fn.parts l.x

abbrev pub decreases-loop-part : goal.decreases-loop-part
decreases-loop-part g l = length l.part-items - l.part-index
