-- `slices::scatter_nibble`: four bits more, of one nibble.
use Rattle.slices.proofs.Nibbles.{nibble_scattered}
use Rattle.slices.proofs.scatter_nibble.Goals as goal

pub returns : goal.returns
returns c =
    let a = c.args in
    let to = a.m.goes in
    let under = a.m.within in
    nibble_scattered a.x.now a.key.now a.y.now a.m.n a.m.a a.m.b a.m.c a.m.d under.0 to.0 to.1 to.2 to.3 under.1 under.2 under.3 under.4 c.sbox-t.result c.sbox-t.ensures
