-- `counter::mix`: the bytes before place i are xored.
use mathlib.Core.Path.{◌≡◌}
use Rattle.counter.specs.Standard.{◌⊕◌}
use Rattle.bits.proofs.Filling.{written}
use Rattle.counter.proofs.mix.Given as goal

abbrev pub invariant-loop-i : goal.invariant-loop-i
invariant-loop-i l = l.output ≡ written (l.input ⊕ l.initial.output) l.initial.output l.i
