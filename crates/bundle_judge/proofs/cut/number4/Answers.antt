-- `bundle_judge::cut::number4`: its four bytes.
use native.Mathlib.Omega.{arith}
use Rattle.bundle_judge.proofs.Cutting.{number_four}
use Rattle.bundle_judge.proofs.cut.number4.Goals as goal

pub returns : goal.returns
returns c = omega (arith, c.from_be_bytes.ensures, number_four c.args.at c.args.b.now c.requires)
