-- `turning::cross`: its words, bit by bit.
use Rattle.turning.proofs.Crossing.{crosses, mask_is, level-small}
use Rattle.turning.proofs.cross.Goals as goal

pub returns : goal.returns
returns c = rw (mask_is c.args.n c.requires) (crosses c.args.n (level-small c.args.n c.requires).0 c.args.a c.args.b)
