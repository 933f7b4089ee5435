-- `slices::six_bits`: the first i bits of the constant are in.
use Rattle.published.specs.Rounds.{xored}
use Rattle.slices.specs.Inner.{Lanes, constant_bits}
use Rattle.slices.proofs.six_bits.Given as goal

abbrev pub invariant-loop-i : goal.invariant-loop-i
invariant-loop-i l = Lanes (λ b. xored 128 (constant_bits l.i l.c)) l.initial.y l.y
