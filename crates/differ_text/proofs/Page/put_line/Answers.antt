-- `Page::put_line`: the id, and both sides.
use Prim.Native.Nat.{◌*◌}
use Rattle.differ_text.proofs.Laid.{puts_as, then_puts}
use Rattle.differ_text.proofs.Sides.{line_as}
use Rattle.differ_text.proofs.Page.put_line.Goals as goal

pub returns : goal.returns
returns c =
    let n = c.number_at in
    let one = c.told_at in
    let two = c.told_at-2 in
    let a = c.args in
    puts_as
    (then_puts (then_puts (then_puts (then_puts (then_puts c.put_decimal.ensures c.put_all.ensures) c.put_side.ensures) c.put_all-2.ensures) c.put_side-2.ensures) c.put.ensures)
    (line_as a.rows.now a.first.now a.second.now (9 * a.k) n.result one.result two.result n.ensures one.ensures two.ensures)
