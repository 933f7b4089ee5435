-- `gift128::Way::singles`: the first n blocks are written.
use mathlib.Core.Path.{◌≡◌}
use Prim.Native.Nat.{◌-◌, ◌*◌, ◌/◌, ◌≤◌}
use lib.ListN.{length, take}
use Rattle.published.specs.Blocks.{each_of}
use Rattle.published.specs.Seen.{seen}
use Rattle.packing.specs.Orders.{order_number}
use Rattle.gift128.specs.Calls.{rounds_by}
use Rattle.gift128.proofs.Way.singles.Given as goal

abbrev pub invariant-loop-n : goal.invariant-loop-n
invariant-loop-n l =
    (l.n ≤ length l.input / 16) × (length l.output ≡ length l.initial.output) × (take (16 * l.n) l.output ≡ each_of 16 (seen (order_number l.self.order) (rounds_by l.self.back l.self.words.now)) l.n l.input)

abbrev pub decreases-loop-n : goal.decreases-loop-n
decreases-loop-n l = length l.input / 16 - l.n
