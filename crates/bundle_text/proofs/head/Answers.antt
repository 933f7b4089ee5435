-- `bundle_text::head`: words and two numbers.
use Rattle.std.proofs.Common.{rules}
use Rattle.differ_text.specs.Puts.{Puts}
use Rattle.differ_text.proofs.Laid.{then_puts, laid_whole}
use Rattle.bundle_text.specs.Seen.{head_line}
use Rattle.bundle_text.proofs.head.Goals as goal

pub returns : goal.returns
unfolding head_line
returns c =
    let puts : Puts (head_line c.args.edition c.args.reader) c.new-page.result c.put_all-3.new.self =
    then_puts (then_puts (then_puts (then_puts c.put_all.ensures c.put_decimal.ensures) c.put_all-2.ensures) c.put_decimal-2.ensures) c.put_all-3.ensures in
    laid_whole c.new-page.ensures.laid puts c.len.ensures (search rules)
