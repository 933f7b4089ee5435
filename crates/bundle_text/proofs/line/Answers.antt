-- `bundle_text::line`: the id, the answer, must-know.
use mathlib.Core.Path.{ap₂}
use Prim.Native.Nat.{ℕ}
use Rattle.std.proofs.Common.{rules}
use Rattle.bundle_format.specs.Reader.{meant}
use Rattle.bundle_format.specs.declared.Told.{Told}
use Rattle.differ_text.specs.Puts.{Puts}
use Rattle.differ_text.proofs.Laid.{puts_as, then_puts, laid_whole}
use Rattle.bundle_text.specs.Seen.{setting_line, entry_line}
use Rattle.bundle_text.proofs.line.Goals as goal

pub returns : goal.returns
unfolding setting_line entry_line
returns c =
    let a = c.args in
    let puts : Puts (entry_line a.seen a.bundle.now a.i) c.new-page.result c.put-2.new.self =
    puts_as
    (then_puts (then_puts (then_puts (then_puts c.put_decimal.ensures c.put.ensures) c.put_side.ensures) c.put_must.ensures) c.put-2.ensures)
    (ap₂ (λ (t : Told) (m : ℕ). setting_line t.id (meant a.bundle.now t) m) c.entry-told.ensures c.must_of.ensures) in
    laid_whole c.new-page.ensures.laid puts c.len.ensures (search rules)
