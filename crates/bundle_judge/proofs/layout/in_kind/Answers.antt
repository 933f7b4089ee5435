-- `bundle_judge::layout::in_kind`, test by test.
use Rattle.std.proofs.lemmas.Grind.{common_steps}
use native.Mathlib.Omega.{arith}
use Rattle.bundle_format.specs.Reader.{in_kind}
use Rattle.bundle_judge.proofs.layout.in_kind.Goals as goal

pub returns-then-not-knows_kind : goal.returns-then-not-knows_kind
unfolding in_kind
returns-then-not-knows_kind c = grind (arith, common_steps)

pub returns-else-not-knows_kind : goal.returns-else-not-knows_kind
unfolding in_kind
returns-else-not-knows_kind c = grind (arith, common_steps)

pub returns-else-own_kind : goal.returns-else-own_kind
unfolding in_kind
returns-else-own_kind c = grind (arith, common_steps)
