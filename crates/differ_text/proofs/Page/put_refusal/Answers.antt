-- `Page::put_refusal`: nothing of 0; otherwise words, the number, a newline.
use borrow.Author.Tests.{eq-eqb, ne_eqb}
use Rattle.differ_text.specs.Rendered.{refusal_line}
use Rattle.differ_text.proofs.Laid.{puts-nothing, then_puts}
use Rattle.differ_text.proofs.Page.put_refusal.Goals as goal

pub returns-then-code-eq0 : goal.returns-then-code-eq0
unfolding refusal_line
returns-then-code-eq0 c = rw (eq-eqb _ 0 c.if-code-eq0.true) (puts-nothing c.args.self.now)

pub returns : goal.returns
unfolding refusal_line
returns c = rw (ne_eqb _ 0 c.if-code-eq0.false) (then_puts (then_puts c.put_all.ensures c.put_decimal.ensures) c.put.ensures)
