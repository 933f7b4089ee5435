-- `Page::put_closing`: words, the count, a newline.
use Rattle.differ_text.specs.Rendered.{closing_line}
use Rattle.differ_text.proofs.Laid.{then_puts}
use Rattle.differ_text.proofs.Page.put_closing.Goals as goal

pub returns : goal.returns
unfolding closing_line
returns c = then_puts (then_puts c.put_all.ensures c.put_decimal.ensures) c.put.ensures
