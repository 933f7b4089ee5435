-- `packing::packing` reads sixteen bytes as their order has them, and nothing else.
use mathlib.Core.Path.{sym, ap, ◌∙◌}
use mathlib.Core.List.{List}
use Prim.Native.Nat.{ℕ}
use Rattle.published.specs.Seen.{read_in}
use Rattle.primitives.specs.Packed.{state_of}
use Rattle.packing.specs.Orders.{order_number}
use Rattle.packing.specs.Packing.{packed}
use Rattle.packing.proofs.Inverse.{zeros, is_order_number, no_order, packed-block, packed_other, packed_in_none}
use Rattle.packing.proofs.packing.Goals.{in_default-via-in-Ok+in_default, in_default-via-in_default}
use Rattle.packing.proofs.packing.Goals as goal

pub returns-in-Ok-Some : goal.returns-in-Ok-Some
returns-in-Ok-Some c =
    let q = c.in-Ok-Some in
    let bs : List ℕ = c.args.input.now in
    let whole = q.ensures'.cases in
    c.pack.ensures ∙ ap (λ (l : List ℕ). state_of (read_in (order_number q.order) l)) whole.same
    ∙ sym (packed-block (order_number q.order) bs (is_order_number q.order) whole.long)
    ∙ ap (λ (n : ℕ). packed n bs) q.ensures

pub returns-in_default : goal.returns-in_default
returns-in_default c =
    zeros c.default.ensures
    ∙ elim c.in_default.branch [
      | in_default-via-in-Ok+in_default w ↦ sym (packed_other c.args.order c.args.input.now w.in_default.ensures'.cases)
      | in_default-via-in_default w ↦
          let none = rw w.in_default.is-0 at c.try_from.ensures in sym (packed_in_none c.args.order c.args.input.now (no_order c.args.order none.1))
    ]
