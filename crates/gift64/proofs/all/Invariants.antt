-- `gift64::all`: the first n blocks are written.
use mathlib.Core.Path.{◌≡◌}
use Prim.Native.Nat.{◌-◌, ◌*◌, ◌/◌, ◌≤◌}
use lib.ListN.{length, take}
use Rattle.published.specs.Blocks.{each_of}
use Rattle.gift64.specs.Inner.{crossed_by}
use Rattle.gift64.proofs.all.Given as goal

abbrev pub invariant-loop-n : goal.invariant-loop-n
invariant-loop-n l =
    (l.n ≤ length l.input / 8) × (length l.output ≡ length l.initial.output) × (take (8 * l.n) l.output ≡ each_of 8 (crossed_by l.back l.words) l.n l.input)

abbrev pub decreases-loop-n : goal.decreases-loop-n
decreases-loop-n l = length l.input / 8 - l.n
