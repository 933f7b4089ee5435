-- `turning::from_slices`: of the right lengths, all of it.
use mathlib.Core.Path.{sym, ap, ◌∙◌}
use Rattle.published.specs.Blocks.{joined}
use Rattle.published.specs.Seen.{write_in}
use Rattle.published.proofs.Groups.{joined_cong}
use Rattle.bits.proofs.Computed.{cond-true}
use Rattle.packing.specs.Orders.{order_number}
use Rattle.turning.specs.Slices.{lane}
use Rattle.turning.proofs.Blocks.{is_whole, write_as}
use Rattle.turning.proofs.from_slices.Goals as goal

pub returns-in-Some-as_mut_array : goal.returns-in-Some-as_mut_array
returns-in-Some-as_mut_array c =
    let words = c.in-Some.ensures.cases in
    let bytes = c.in-Some-as_mut_array.ensures.cases in
    c.unslice.ensures
    ∙ joined_cong 64 (λ b. write_in (order_number c.order_of.result) (lane c.in-Some.x.now b)) (λ b. write_in c.args.order (lane c.in-Some.x.now b))
    (λ b h. write_as (order_number c.order_of.result) c.args.order c.order_of.ensures (lane c.in-Some.x.now b))
    ∙ ap (λ l. joined 64 (λ b. write_in c.args.order (lane l b))) words.same
    ∙ sym (cond-true _ _ _ (is_whole _ _ bytes.long words.long))
