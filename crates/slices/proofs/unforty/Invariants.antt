-- `slices::unforty`: two rounds a turn.
use Rattle.std.proofs.Common.{◌*◌}
use Rattle.slices.proofs.Rounding.{Undone}
use Rattle.slices.proofs.unforty.Given as goal

abbrev pub invariant-loop-n : goal.invariant-loop-n
invariant-loop-n l = Undone l.masks l.initial.x (2 * l.n) l.x
