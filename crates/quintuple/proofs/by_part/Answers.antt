-- `quintuple::by_part`: its five rounds, one after the other.
use Rattle.quintuple.proofs.Chain.{made}
use Rattle.quintuple.proofs.by_part.Goals as goal

pub returns : goal.returns
returns c =
    let a = c.args in
    made a.p a.s _ _ _ _ _ _ _ _ _ _ c.round-a.ensures c.exchanged.ensures c.round-b.ensures c.exchanged-2.ensures c.round-c.ensures c.exchanged-3.ensures c.round-d.ensures c.exchanged-4.ensures c.round-e.ensures c.exchanged-5.ensures
