-- `Text::empty` holds nothing.
use mathlib.Core.Path.{refl}
use Rattle.text.specs.Written.{written}
use Rattle.text.proofs.Text.empty.Goals as goal

pub returns : goal.returns
unfolding written
returns c = refl
