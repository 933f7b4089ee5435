-- `differ::fill`: the lines with ids below `low` are laid in k rows.
use Prim.Native.Nat.{◌-◌}
use Rattle.differ.specs.Difference.{ids}
use Rattle.differ.proofs.Rows.{Filled}
use Rattle.differ.proofs.fill.Given as goal

abbrev pub invariant-loop-low : goal.invariant-loop-low
invariant-loop-low l = Filled l.one.bundle.now l.two.bundle.now l.initial.rows l.rows l.low l.k

abbrev pub decreases-loop-low : goal.decreases-loop-low
decreases-loop-low l = ids - l.low
