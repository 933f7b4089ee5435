-- `lane::any_bit` is 0 exactly if every word is.
use mathlib.Core.Path.{◌≡◌}
use mathlib.Core.Bool.{◌&&◌}
use lib.Dec.{eqb}
use lib.ListN.{drop}
use Rattle.lane.specs.Record.{all_zero}
use Rattle.lane.proofs.any_bit.Given as goal

abbrev pub invariant-loop-word : goal.invariant-loop-word
invariant-loop-word l = (eqb l.bits 0 && all_zero (drop l.word-index l.words)) ≡ all_zero l.words
