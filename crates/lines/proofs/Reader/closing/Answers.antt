-- `Reader::closing` answers a line that has begun, and closes.
use mathlib.Core.List.{[]}
use borrow.Author.Tests.{eq-eqb, ne_eqb}
use Rattle.lines.specs.Session.{closing_of}
use Rattle.lines.proofs.Reader.closing.Goals as goal

pub returns-then-self-eq0 : goal.returns-then-self-eq0
unfolding closing_of
returns-then-self-eq0 c = rw (eq-eqb _ _ c.if-self-eq0.true) (c.push_done.ensures [] c.empty-t.ensures)

pub returns : goal.returns
unfolding closing_of
returns c =
    rw (ne_eqb _ _ c.if-self-eq0.false, ← c.next_line-n.ensures) (c.push_done-2.ensures _ c.answer_line-t.ensures)
