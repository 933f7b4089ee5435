-- `packing::put`: eight bytes, and eight.
use mathlib.Core.Path.{◌∙◌}
use Rattle.published.specs.Bytes.{to_bytes}
use Rattle.published.proofs.Reading.{length_to_bytes}
use Rattle.packing.proofs.Laid.{laid}
use Rattle.packing.proofs.put.Goals as goal

pub returns : goal.returns
returns c =
    laid (to_bytes 8 c.args.high) (to_bytes 8 c.args.low) c.args.output.now c.copy_from_slice.new.self c.copy_from_slice-2.new.self
    (length_to_bytes 8 c.args.high) c.requires (c.copy_from_slice.ensures.after ∙ c.bytes.ensures) (c.copy_from_slice-2.ensures.after ∙ c.bytes-2.ensures)
