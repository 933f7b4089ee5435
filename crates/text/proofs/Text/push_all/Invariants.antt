-- `Text::push_all` holds, at each turn, the bytes passed so far.
use lib.ListN.{take}
use Rattle.text.specs.Written.{Adds}
use Rattle.text.proofs.Text.push_all.Given as goal

abbrev pub invariant-loop-b : goal.invariant-loop-b
invariant-loop-b l = Adds (take l.b-index l.bs) l.fn.self l.self
