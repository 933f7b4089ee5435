-- `packing::unpacking_64` joins the low halves of the words, scatters their bits and puts them as bytes.
use mathlib.Core.Path.{sym, ap, ◌∙◌}
use Rattle.published.specs.Bytes.{to_bytes}
use Rattle.packing.specs.Inner.{reordered, scattered_from}
use Rattle.packing.proofs.Small.{scattered_words, unpacked-eight, unpacked_not_eight}
use Rattle.packing.proofs.unpacking_64.Goals as goal

pub returns-then-output-eq8 : goal.returns-then-output-eq8
returns-then-output-eq8 c =
    c.copy_from_slice.ensures.after ∙ c.bytes.ensures
    ∙ ap (to_bytes 8) (c.scatter.ensures ∙ ap (reordered scattered_from) c.half.ensures ∙ scattered_words c.args.state)
    ∙ sym (unpacked-eight c.args.state c.args.output.now c.if-output-eq8.true)

pub returns-else-output-eq8 : goal.returns-else-output-eq8
returns-else-output-eq8 c = sym (unpacked_not_eight c.args.state c.args.output.now c.if-output-eq8.false)
