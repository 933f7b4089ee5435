-- `lines::push_done` pushes its word, the number and a newline.
use mathlib.Core.Path.{ap, ◌∙◌}
use mathlib.Core.List.{append_assoc}
use Rattle.lines.specs.Input.{done_line}
use Rattle.text.specs.Written.{written}
use Rattle.lines.proofs.push_done.Goals as goal

pub returns : goal.returns
unfolding done_line
returns c l e = c.push.ensures _ (c.push_decimal.ensures _ (c.push_all.ensures l e)) ∙ ap written (simp append_assoc)
