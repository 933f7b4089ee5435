-- `differ_text::number`: the number of the bytes passed so far.
use mathlib.Core.Path.{refl}
use mathlib.Core.List.{List}
use Prim.Native.Nat.{ℕ}
use native.Mathlib.Omega.{arith}
use lib.ListN.{take, length-take}
use Rattle.published.specs.Bytes.{Bytes, from_bytes}
use Rattle.published.proofs.Reading.{bytes_take}
use Rattle.differ_text.proofs.Numbers.{next_byte, fits_more}
use Rattle.differ_text.proofs.number.Goals as goal

pub loop-b-init : goal.loop-b-init
unfolding from_bytes
loop-b-init c = refl

pub overflow_mul-n : goal.overflow_mul-n
overflow_mul-n c =
    let first : List ℕ = take c.min.result c.args.body.now in
    let known : Bytes first = bytes_take c.min.result c.args.body.now (λ i. omega (arith, c.type_inv.body i)) in
    omega (arith, length-take c.min.result c.args.body.now, fits_more first c.loop-b.b-index c.loop-b.n c.loop-b.invariant known (omega arith) (omega (arith, length-take c.min.result c.args.body.now)))

pub overflow_add-n : goal.overflow_add-n
overflow_add-n c =
    let first : List ℕ = take c.min.result c.args.body.now in
    let known : Bytes first = bytes_take c.min.result c.args.body.now (λ i. omega (arith, c.type_inv.body i)) in
    omega (arith, known c.loop-b.b-index, fits_more first c.loop-b.b-index c.loop-b.n c.loop-b.invariant known (omega arith) (omega (arith, length-take c.min.result c.args.body.now)))

pub loop-b-preserved : goal.loop-b-preserved
loop-b-preserved c = next_byte (take c.min.result c.args.body.now) c.loop-b.b-index c.loop-b.n c.loop-b.invariant (omega arith)
