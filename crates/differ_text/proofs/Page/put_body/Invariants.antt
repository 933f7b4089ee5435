-- `Page::put_body`: the text of the bytes passed so far is laid.
use lib.ListN.{take}
use Rattle.differ_text.specs.Rendered.{escaped}
use Rattle.differ_text.specs.Puts.{Puts}
use Rattle.differ_text.proofs.Page.put_body.Given as goal

abbrev pub invariant-loop-b : goal.invariant-loop-b
invariant-loop-b l = Puts (escaped (take l.b-index l.body)) l.fn.self l.self
