-- `quintuple::inv_round`: the key, the moves undone and the inverse box.
use Rattle.quintuple.proofs.Shapes.{moved_unround}
use Rattle.quintuple.proofs.inv_round.Goals as goal

pub returns : goal.returns
returns g c =
    moved_unround g.row.K c.args.s _ _ c.exchanged.result c.args.key.v c.args.key.u c.args.key.c c.unmoved.ensures c.inv_sbox.ensures c.exchanged.ensures
