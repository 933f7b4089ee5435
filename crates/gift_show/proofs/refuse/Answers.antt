-- What is written lies in the buffer.
use Rattle.std.proofs.Common.{rules, sym}
use lib.Seq.{length-take-le}
use Rattle.differ_text.proofs.Laid.{within, then_puts, laid_whole}
use Rattle.gift_show.proofs.refuse.Goals as goal

pub slice_bounds-out-end : goal.slice_bounds-out-end
slice_bounds-out-end g c =
    within _ _ _ _ (laid_whole c.new-page.ensures.laid (then_puts (then_puts c.put_all.ensures c.put_decimal.ensures) c.put.ensures) c.len-n.ensures (search rules))

pub slice_bounds-write_all-end : goal.slice_bounds-write_all-end
slice_bounds-write_all-end g c =
    sym (length-take-le _ _ (within _ _ _ _ (laid_whole c.new-page.ensures.laid (then_puts (then_puts c.put_all.ensures c.put_decimal.ensures) c.put.ensures) c.len-n.ensures (search rules))))
