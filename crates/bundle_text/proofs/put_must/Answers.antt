-- `bundle_text::put_must`: nothing of 0, and otherwise the words.
use borrow.Author.Tests.{eq-eqb, ne_eqb}
use Rattle.differ_text.proofs.Laid.{puts-nothing}
use Rattle.bundle_text.specs.Seen.{must_text}
use Rattle.bundle_text.proofs.put_must.Goals as goal

pub returns-then-must-ne0 : goal.returns-then-must-ne0
unfolding must_text
returns-then-must-ne0 c = rw (ne_eqb _ 0 c.if-must-ne0.true) c.put_all.ensures

pub returns-else-must-ne0 : goal.returns-else-must-ne0
unfolding must_text
returns-else-must-ne0 c = rw (eq-eqb _ 0 c.if-must-ne0.false) (puts-nothing c.args.page.now)
