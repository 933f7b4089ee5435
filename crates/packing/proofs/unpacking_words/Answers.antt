-- `packing::unpacking_words` writes sixteen bytes as order 1 has them, and nothing else.
use mathlib.Core.Path.{refl, sym, ◌∙◌}
use Rattle.packing.proofs.Inverse.{unpacked-block, unpacked_other}
use Rattle.packing.proofs.unpacking_words.Goals as goal

pub returns-then-output-eq16 : goal.returns-then-output-eq16
returns-then-output-eq16 c =
    let a = c.args in
    c.to_words.ensures ∙ sym (unpacked-block 1 a.state a.output.now refl (sym c.if-output-eq16.true))

pub returns-else-output-eq16 : goal.returns-else-output-eq16
returns-else-output-eq16 c =
    let a = c.args in
    sym (unpacked_other 1 a.state a.output.now (λ e. c.if-output-eq16.false (sym e)))
