-- No more rows than 512 are written, since two bundles have no more ids.
use Rattle.std.proofs.Common.{arith}
use Rattle.differ.proofs.Theorems.{at_most}
use Rattle.gift_differ.proofs.compare.Goals as goal

pub show-requires : goal.show-requires
show-requires g c = omega (arith, c.compare-compared.ensures.counts, at_most c.args.key.now c.args.first.now c.args.second.now)
