-- `quintuple::round`: the box, the moves and the key.
use Rattle.quintuple.proofs.Shapes.{moved_round}
use Rattle.quintuple.proofs.round.Goals as goal

pub returns : goal.returns
returns g c =
    moved_round g.row.K c.args.s _ c.moved-t.result c.args.key.v c.args.key.u c.args.key.c c.sbox.ensures c.moved-t.ensures
