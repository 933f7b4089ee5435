-- `slices::forty`: two rounds a turn.
use Rattle.std.proofs.Common.{◌*◌}
use Rattle.slices.proofs.Rounding.{Rest}
use Rattle.slices.proofs.forty.Given as goal

abbrev pub invariant-loop-n : goal.invariant-loop-n
invariant-loop-n l = Rest l.masks l.initial.x (2 * l.n) l.x
