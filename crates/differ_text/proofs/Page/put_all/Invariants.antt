-- `Page::put_all`: the bytes passed so far are laid.
use lib.ListN.{take}
use Rattle.differ_text.specs.Puts.{Puts}
use Rattle.differ_text.proofs.Page.put_all.Given as goal

abbrev pub invariant-loop-b : goal.invariant-loop-b
invariant-loop-b l = Puts (take l.b-index l.bs) l.fn.self l.self
