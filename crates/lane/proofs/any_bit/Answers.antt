-- `lane::any_bit` is 0 exactly if every word is.
use native.Mathlib.Omega.{arith}
use Rattle.lane.proofs.Zero.{zero_more, zero-end}
use Rattle.lane.proofs.any_bit.Goals as goal

pub loop-word-preserved : goal.loop-word-preserved
loop-word-preserved c = zero_more c.args.words.now c.loop-word.bits c.loop-word.word-index c.loop-word.invariant (omega arith)

pub returns : goal.returns
returns c = zero-end c.args.words.now c.loop-word.bits c.loop-word.word-index c.loop-word.invariant (omega arith)
