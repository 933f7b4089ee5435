-- `line_answers::bad_line` pushes its words and the number.
use mathlib.Core.List.{[]}
use Rattle.line_answers.specs.Line.{bad_line}
use Rattle.line_answers.proofs.bad_line.Goals as goal

pub returns : goal.returns
unfolding bad_line
returns c = c.push_decimal.ensures _ (c.push_all.ensures [] c.empty-t.ensures)
