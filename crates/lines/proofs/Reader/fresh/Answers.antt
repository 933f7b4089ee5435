-- `Reader::fresh` has kept nothing.
use mathlib.Core.Path.{refl}
use Rattle.lines.specs.Session.{fresh_reader}
use Rattle.lines.proofs.Reader.fresh.Goals as goal

pub returns : goal.returns
unfolding fresh_reader
returns c = refl
