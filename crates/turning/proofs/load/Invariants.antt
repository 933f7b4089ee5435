-- `turning::load`: the halves below place r are right.
use Rattle.turning.proofs.Passes.{Up, HalfAt}
use Rattle.turning.proofs.load.Given as goal

abbrev pub invariant-loop-r : goal.invariant-loop-r
invariant-loop-r l = Up (HalfAt l.input) l.r l.x
