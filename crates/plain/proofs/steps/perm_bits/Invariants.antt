-- `plain::steps::perm_bits`: the bits below i have moved.
use mathlib.Core.Path.{◌≡◌}
use Prim.Native.Nat.{◌-◌, ◌≤◌}
use Rattle.published.specs.Rounds.{P, moved}
use Rattle.plain.specs.Inner.{state_of, nibbles_of}
use Rattle.plain.proofs.steps.perm_bits.Given as goal

abbrev pub invariant-loop-i : goal.invariant-loop-i
invariant-loop-i l = (l.i ≤ l.n) × (l.moved ≡ nibbles_of 32 (moved (P l.n) l.i (state_of l.s)))

abbrev pub decreases-loop-i : goal.decreases-loop-i
decreases-loop-i l = l.n - l.i
