-- `differ_text::number`: the number of the bytes passed so far.
use mathlib.Core.Path.{◌≡◌}
use lib.ListN.{take}
use Rattle.published.specs.Bytes.{from_bytes}
use Rattle.differ_text.proofs.number.Given as goal

abbrev pub invariant-loop-b : goal.invariant-loop-b
invariant-loop-b l = l.n ≡ from_bytes (take l.b-index l.first)
