-- `Page::put_decimal`: the digits of a number.
use mathlib.Core.List.{[]}
use native.Mathlib.Omega.{arith}
use Rattle.differ_text.proofs.Laid.{puts_as}
use Rattle.differ_text.proofs.Sides.{shown_decimal}
use Rattle.differ_text.proofs.Page.put_decimal.Goals as goal

pub returns : goal.returns
returns c =
    puts_as c.put_text.ensures (shown_decimal c.push_decimal.new.self c.args.n (omega arith) (c.push_decimal.ensures [] c.empty-digits.ensures))
