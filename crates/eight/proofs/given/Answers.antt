-- `eight::given`: rewritten as the order has it, and put.
use Rattle.std.proofs.Common.{refl, ap, ◌∙◌}
use Rattle.published.specs.Seen.{write_in}
use Rattle.published.proofs.Groups.{joined_cong}
use Rattle.packing.specs.Orders.{order_number}
use Rattle.primitives.specs.declared.State.{State}
use Rattle.primitives.specs.Packed.{block_of}
use Rattle.eight.specs.Inner.{Each, leaving}
use Rattle.eight.proofs.given.Goals as goal
use Rattle.eight.proofs.given.Goals.{in-Number, in_default}

pub returns : goal.returns
returns c =
    let gone : Each (leaving (order_number c.args.order)) c.args.s c.match-order.t = elim c.match-order.branch [
      | in-Number w ↦ rw (w.in-Number.is, w.t-is) (record { lane = λ k h. (w.each.ensures.lane k h).1 })
      | in_default w ↦ rw (w.in_default.is, w.t-is) (record { lane = λ k h. refl })
    ] in
    c.put.ensures ∙ joined_cong 4 _ _ (λ k h. ap (λ (t : State). write_in 1 (block_of t)) (gone.lane k h))
