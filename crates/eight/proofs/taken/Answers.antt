-- `eight::taken`: read, and rewritten as the order has it.
use Rattle.std.proofs.Common.{ap, ◌∙◌}
use Rattle.eight.specs.Inner.{rewritten}
use Rattle.eight.proofs.taken.Goals as goal

pub returns-in-Number : goal.returns-in-Number
returns-in-Number c = rw c.in-Number.is (record { lane = λ k h. (c.each.ensures.lane k h).1 ∙ ap (rewritten 1 0) (c.read-s.ensures.lane k h) })
