-- `bundle_writer::judge::lent_row`: its four numbers.
use mathlib.Core.Path.{refl}
use Rattle.bundle_writer.specs.Inner.{lent_row}
use Rattle.bundle_writer.proofs.judge.lent_row.Goals as goal

pub returns : goal.returns
unfolding lent_row
returns c = refl
