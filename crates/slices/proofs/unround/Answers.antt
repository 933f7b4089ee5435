-- `slices::unround`: the constant, and gathered.
use Rattle.slices.proofs.Flips.{round-unmade}
use Rattle.slices.proofs.unround.Goals as goal

pub returns : goal.returns
returns c = let a = c.args in round-unmade a.key.now a.c c.add_constant.ensures c.gather.ensures
