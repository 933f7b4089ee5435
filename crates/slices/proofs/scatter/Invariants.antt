-- `slices::scatter`: the bits of the nibbles before are right.
use Rattle.std.proofs.Common.{◌+◌, ◌*◌}
use Rattle.slices.specs.Inner.{Scattered}
use Rattle.slices.proofs.scatter.Given as goal

abbrev pub invariant-loop-g : goal.invariant-loop-g
invariant-loop-g l = Scattered l.x l.key (16 * l.g) l.y

abbrev pub invariant-loop-h : goal.invariant-loop-h
invariant-loop-h l = Scattered l.x l.key (4 * (4 * l.g + l.h)) l.y
