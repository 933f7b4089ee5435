-- `Reader::feed` ends the line at a newline and keeps any other byte.
use mathlib.Core.Path.{◌≡◌}
use borrow.Author.Tests.{eq-eqb, ne_eqb}
use Rattle.lines.specs.Input.{answer_line}
use Rattle.text.specs.Written.{written}
use Rattle.lines.specs.Session.{held, ended, fed_by}
use Rattle.lines.proofs.Reader.feed.Goals as goal

pub returns-then-b-ne10 : goal.returns-then-b-ne10
unfolding fed_by
returns-then-b-ne10 c = rw (ne_eqb _ _ c.if-b-ne10.true, ← c.keep.ensures, ← c.empty.ensures)

pub returns : goal.returns
unfolding fed_by ended held
returns c =
    let text : c.answer_line-text.result ≡ written (answer_line c.next_line-self.result (held c.args.self.now)) = c.answer_line-text.ensures in
    rw (eq-eqb _ _ c.if-b-ne10.false, ← c.next_line-self.ensures, ← text)
