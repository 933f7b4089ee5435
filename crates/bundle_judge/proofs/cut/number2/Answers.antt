-- `bundle_judge::cut::number2`: its two bytes.
use native.Mathlib.Omega.{arith}
use Rattle.bundle_judge.proofs.Cutting.{number_two}
use Rattle.bundle_judge.proofs.cut.number2.Goals as goal

pub returns : goal.returns
returns c = omega (arith, c.from_be_bytes.ensures, number_two c.args.at c.args.b.now c.requires)
