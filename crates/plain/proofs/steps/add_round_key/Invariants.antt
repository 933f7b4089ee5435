-- `plain::steps::add_round_key`: the nibbles below i have their bits of U and V.
use Prim.Native.Nat.{◌-◌, ◌≤◌}
use lib.ListN.{length}
use Rattle.published.specs.Rounds.{key_bit}
use Rattle.plain.specs.Inner.{pair}
use Rattle.plain.proofs.Flips.{Flipped}
use Rattle.plain.proofs.Adding.{below}
use Rattle.plain.proofs.steps.add_round_key.Given as goal

abbrev pub invariant-loop-i : goal.invariant-loop-i
invariant-loop-i l = (l.i ≤ length l.initial.s) × Flipped l.initial.s (below (key_bit l.j (pair l.u l.v)) l.i) l.s

abbrev pub decreases-loop-i : goal.decreases-loop-i
decreases-loop-i l = length l.initial.s - l.i
