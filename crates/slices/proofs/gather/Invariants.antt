-- `slices::gather`: the bits of the nibbles before are right.
use Rattle.std.proofs.Common.{◌+◌, ◌*◌}
use Rattle.slices.specs.Inner.{Gathered}
use Rattle.slices.proofs.gather.Given as goal

abbrev pub invariant-loop-g : goal.invariant-loop-g
invariant-loop-g l = Gathered l.x l.key (16 * l.g) l.y

abbrev pub invariant-loop-h : goal.invariant-loop-h
invariant-loop-h l = Gathered l.x l.key (4 * (4 * l.g + l.h)) l.y
