-- `counter::copy`: the bytes before place i are copied.
use mathlib.Core.Path.{◌≡◌}
use Rattle.bits.proofs.Filling.{written}
use Rattle.counter.proofs.copy.Given as goal

abbrev pub invariant-loop-i : goal.invariant-loop-i
invariant-loop-i l = l.to ≡ written l.from l.initial.to l.i
