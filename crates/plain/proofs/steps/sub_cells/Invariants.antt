-- `plain::steps::sub_cells`: the nibbles before x have gone through the table.
use Prim.Native.Nat.{◌-◌, ◌≤◌}
use lib.ListN.{length, get_or}
use Rattle.plain.proofs.Tables.{Through}
use Rattle.plain.proofs.steps.sub_cells.Given as goal

abbrev pub invariant-loop-x : goal.invariant-loop-x
invariant-loop-x l = (l.x-index ≤ length l.initial.s) × Through (λ x. get_or l.table x 0) l.initial.s l.x-index l.s

abbrev pub decreases-loop-x : goal.decreases-loop-x
decreases-loop-x l = length l.initial.s - l.x-index
