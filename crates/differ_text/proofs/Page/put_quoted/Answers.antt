-- `Page::put_quoted`: the text between its marks.
use Rattle.differ_text.proofs.Laid.{then_puts}
use Rattle.differ_text.proofs.Page.put_quoted.Goals as goal

pub returns : goal.returns
returns c = then_puts (then_puts c.put_all.ensures c.put_body.ensures) c.put.ensures
