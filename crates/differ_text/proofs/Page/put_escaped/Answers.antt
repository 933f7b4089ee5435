-- `Page::put_escaped`: a byte as it is, or by its hex digits.
use mathlib.Core.Path.{sym, ◌∙◌}
use mathlib.Core.List.{[]}
use Rattle.differ_text.proofs.Laid.{puts_as}
use Rattle.differ_text.proofs.Sides.{plain_byte, shown_escape}
use Rattle.differ_text.proofs.Page.put_escaped.Goals as goal

pub returns-then-is_plain : goal.returns-then-is_plain
returns-then-is_plain c = puts_as c.put.ensures (plain_byte c.args.b (sym c.is_plain.ensures ∙ c.if-is_plain.true))

pub returns : goal.returns
returns c =
    puts_as c.put_text.ensures
    (shown_escape c.push_byte.new.self c.args.b (c.push_byte.ensures _ (c.push_all.ensures [] c.empty-digits.ensures)) (sym c.is_plain.ensures ∙ c.if-is_plain.false))
