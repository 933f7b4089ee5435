-- `bundle_judge::count_of`: the header's second number, or none.
use mathlib.Core.Path.{sym, ◌∙◌}
use borrow.Author.Tests.{lt-leb}
use Rattle.bundle_judge.proofs.Judging.{count_in_lem}
use Rattle.bundle_judge.proofs.count_of.Goals as goal

pub returns-then-b-lt4 : goal.returns-then-b-lt4
returns-then-b-lt4 c = rw (lt-leb 4 _ c.if-b-lt4.true)

pub returns : goal.returns
returns c = c.from.ensures ∙ c.number2.ensures ∙ sym (count_in_lem _ c.if-b-lt4.false)
