-- `Page::put_number`: the words, and the number.
use mathlib.Core.Path.{ap}
use mathlib.Core.List.{List, ◌++◌}
use Prim.Native.Nat.{ℕ}
use Rattle.text.specs.Decimal.{decimal_of}
use Rattle.differ_text.proofs.Laid.{puts_as, then_puts}
use Rattle.differ_text.proofs.Page.put_number.Goals as goal

pub returns : goal.returns
returns c =
    puts_as (then_puts c.put_all.ensures c.put_decimal.ensures) (ap (λ (n : ℕ). c.args.kind.now ++ decimal_of n) c.number.ensures)
