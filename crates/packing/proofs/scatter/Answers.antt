-- `packing::scatter` is its four steps, one after the other, and a test of the places at the end.
use Rattle.packing.specs.Inner.{scattered_from}
use Rattle.packing.proofs.Steps.{begins, then, ends}
use Rattle.packing.proofs.scatter.Goals as goal

pub returns : goal.returns
returns c =
    let m0 = begins c.args.x c.ranges.x.fits in
    let m1 = then _ m0 c.cross-x3.ensures tt in
    let m2 = then _ m1 c.cross-x2.ensures tt in
    let m3 = then _ m2 c.cross-x1.ensures tt in
    ends scattered_from (then _ m3 c.cross.ensures tt) tt
