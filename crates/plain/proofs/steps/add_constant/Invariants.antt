-- `plain::steps::add_constant`: after the highest bit, the nibbles below i have their bits of the constant.
use Prim.Native.Nat.{◌-◌, ◌≤◌}
use Rattle.plain.proofs.Flips.{Flipped}
use Rattle.plain.proofs.Adding.{below, constant_at}
use Rattle.plain.proofs.steps.add_constant.Given as goal

abbrev pub invariant-loop-i : goal.invariant-loop-i
invariant-loop-i l = (l.i ≤ 6) × Flipped l.initial.s (below (constant_at l.c) l.i) l.s

abbrev pub decreases-loop-i : goal.decreases-loop-i
decreases-loop-i l = 6 - l.i
