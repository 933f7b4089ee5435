-- `differ::count_all`: n lines have ids below `low`.
use Prim.Native.Nat.{◌-◌, ◌≤◌}
use Rattle.differ.specs.Difference.{ids}
use Rattle.differ.proofs.Rows.{Counts}
use Rattle.differ.proofs.count_all.Given as goal

abbrev pub invariant-loop-low : goal.invariant-loop-low
invariant-loop-low l = (l.low ≤ ids) × Counts l.one.bundle.now l.two.bundle.now l.low l.n

abbrev pub decreases-loop-low : goal.decreases-loop-low
decreases-loop-low l = ids - l.low
