-- `cmac::mix`: the bytes before place i are xored.
use mathlib.Core.Path.{◌≡◌}
use Rattle.cmac_parts.specs.Standard.{◌⊕◌}
use Rattle.bits.proofs.Filling.{written}
use Rattle.cmac.proofs.mix.Given as goal

abbrev pub invariant-loop-i : goal.invariant-loop-i
invariant-loop-i l = l.block ≡ written (l.initial.block ⊕ l.other) l.initial.block l.i
