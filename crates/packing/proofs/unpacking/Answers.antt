-- `packing::unpacking` writes sixteen bytes as their order has them, and nothing else.
use mathlib.Core.Path.{refl, sym, ap, ◌∙◌}
use Prim.Native.Nat.{ℕ}
use Rattle.packing.specs.Orders.{order_number}
use Rattle.packing.specs.Packing.{unpacked}
use Rattle.packing.proofs.Inverse.{no_order, unpacked-block, unpacked_other, unpacked_in_none}
use Rattle.packing.proofs.unpacking.Goals as goal

-- in each order: its number is that of the variant
pub returns-in-Number : goal.returns-in-Number
returns-in-Number c =
    let a = c.args in
    c.to_number.ensures
    ∙ sym (unpacked-block 0 a.state a.output.now refl c.if-output-eq16.true)
    ∙ ap (λ (n : ℕ). unpacked n a.state a.output.now) (ap order_number (sym c.in-Number.is) ∙ c.in-Ok.ensures)

pub returns-in-Words : goal.returns-in-Words
returns-in-Words c =
    let a = c.args in
    c.to_words.ensures
    ∙ sym (unpacked-block 1 a.state a.output.now refl c.if-output-eq16.true)
    ∙ ap (λ (n : ℕ). unpacked n a.state a.output.now) (ap order_number (sym c.in-Words.is) ∙ c.in-Ok.ensures)

pub returns-else-output-eq16 : goal.returns-else-output-eq16
returns-else-output-eq16 c =
    let a = c.args in
    sym (unpacked_other a.order a.state a.output.now c.if-output-eq16.false)

pub returns-in_default : goal.returns-in_default
returns-in_default c =
    let a = c.args in
    sym (unpacked_in_none a.order a.state a.output.now (no_order a.order c.in_default.ensures.1))
