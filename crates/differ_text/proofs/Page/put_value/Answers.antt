-- `Page::put_value`, by its kind.
use Rattle.differ_text.proofs.Laid.{puts_as}
use Rattle.differ_text.proofs.Sides.{flag_text, number_text, text_text, no_kind_text}
use Rattle.differ_text.proofs.Page.put_value.Goals as goal

pub returns-in-Ok-Flag : goal.returns-in-Ok-Flag
returns-in-Ok-Flag c =
    puts_as c.put_number.ensures (flag_text c.args.kind c.args.body.now (rw c.in-Ok-Flag.field-0-is at c.in-Ok-Flag.ensures))

pub returns-in-Ok-Number : goal.returns-in-Ok-Number
returns-in-Ok-Number c =
    puts_as c.put_number-in-Ok-Number.ensures (number_text c.args.kind c.args.body.now (rw c.in-Ok-Number.field-0-is at c.in-Ok-Number.ensures))

pub returns-in-Ok-Text : goal.returns-in-Ok-Text
returns-in-Ok-Text c =
    puts_as c.put_quoted.ensures (text_text c.args.kind c.args.body.now (rw c.in-Ok-Text.field-0-is at c.in-Ok-Text.ensures))

pub returns-in-Err : goal.returns-in-Err
returns-in-Err c = puts_as c.put_quoted-in-Err.ensures (no_kind_text c.args.kind c.args.body.now _ c.in-Err.ensures)
