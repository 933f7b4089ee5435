-- `differ_text::is_plain`, test by test.
use native.Mathlib.Omega.{arith}
use borrow.Author.Tests.{ne_eqb, le-leb, lt-leb}
use Rattle.differ_text.specs.Rendered.{plain}
use Rattle.differ_text.proofs.is_plain.Goals as goal

pub returns-in-34 : goal.returns-in-34
unfolding plain
returns-in-34 c = rw c.in-34.is

pub returns-in-92 : goal.returns-in-92
unfolding plain
returns-in-92 c = rw c.in-92.is

pub returns-in-32-to-126 : goal.returns-in-32-to-126
unfolding plain
returns-in-32-to-126 c = rw (le-leb 32 c.args.b (omega arith), le-leb c.args.b 126 (omega arith), ne_eqb c.args.b 34 (λ e. omega arith), ne_eqb c.args.b 92 (λ e. omega arith))

pub returns-in_default : goal.returns-in_default
unfolding plain
returns-in_default c = rw (lt-leb 32 c.args.b (omega arith))

pub returns-in_default-2 : goal.returns-in_default-2
unfolding plain
returns-in_default-2 c = rw (le-leb 32 c.args.b (omega arith), lt-leb c.args.b 126 (omega arith))
