-- `differ::numbers`, number by number.
use mathlib.Core.Path.{refl}
use Rattle.differ.specs.Difference.{numbers}
use Rattle.differ.proofs.numbers.Goals as goal

pub returns : goal.returns
unfolding numbers
returns c = refl
