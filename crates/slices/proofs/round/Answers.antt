-- `slices::round`: scattered, and the constant.
use Rattle.slices.proofs.Flips.{round_made}
use Rattle.slices.proofs.round.Goals as goal

pub returns : goal.returns
returns c = let a = c.args in round_made a.key.now a.c c.scatter.ensures c.add_constant.ensures
