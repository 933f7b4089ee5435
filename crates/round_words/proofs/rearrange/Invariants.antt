-- `round_words::rearrange`: the numbers before place i are rearranged.
use mathlib.Core.Path.{◌≡◌}
use Prim.Native.Nat.{◌≤◌}
use lib.ListN.{length}
use Rattle.bits.proofs.Filling.{written}
use Rattle.round_words.specs.Inner.{rearranged}
use Rattle.round_words.proofs.rearrange.Given as goal

abbrev pub invariant-loop-i : goal.invariant-loop-i
invariant-loop-i l = (l.i ≤ 80) × (length l.out ≡ 80) × (l.out ≡ written (rearranged l.back l.given) l.initial.out l.i)
