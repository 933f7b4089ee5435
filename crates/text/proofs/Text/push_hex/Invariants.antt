-- `Text::push_hex` holds, at each turn, the digits of the bytes passed so far.
use lib.ListN.{take}
use Rattle.text.specs.Hex.{hex_of}
use Rattle.text.specs.Written.{Adds}
use Rattle.text.proofs.Text.push_hex.Given as goal

abbrev pub invariant-loop-b : goal.invariant-loop-b
invariant-loop-b l = Adds (hex_of (take l.b-index l.bs)) l.fn.self l.self
