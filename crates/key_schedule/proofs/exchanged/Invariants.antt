-- `key_schedule::exchanged`: the exchanges that are left, of what those before them made.
use mathlib.Core.Path.{◌≡◌}
use Prim.Native.Nat.{◌-◌}
use lib.ListN.{length, drop}
use Rattle.key_schedule.specs.InnerMoves.{exchanged}
use Rattle.key_schedule.proofs.exchanged.Given as goal

abbrev pub invariant-loop-mask : goal.invariant-loop-mask
invariant-loop-mask g l = exchanged (drop l.mask-index l.mask-items) l.y ≡ exchanged l.fn.swaps l.x

abbrev pub decreases-loop-mask : goal.decreases-loop-mask
decreases-loop-mask g l = length l.mask-items - l.mask-index
