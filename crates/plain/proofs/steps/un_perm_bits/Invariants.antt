-- `plain::steps::un_perm_bits`: the bits below i have come back.
use mathlib.Core.Path.{◌≡◌}
use Prim.Native.Nat.{◌-◌, ◌≤◌}
use Rattle.bits.specs.Digit.{bit, of_bits}
use Rattle.published.specs.Rounds.{P}
use Rattle.plain.specs.Inner.{state_of, nibbles_of}
use Rattle.plain.proofs.steps.un_perm_bits.Given as goal

abbrev pub invariant-loop-i : goal.invariant-loop-i
invariant-loop-i l = (l.i ≤ l.n) × (l.moved ≡ nibbles_of 32 (of_bits l.i (λ k. bit (state_of l.s) (P l.n k))))

abbrev pub decreases-loop-i : goal.decreases-loop-i
decreases-loop-i l = l.n - l.i
