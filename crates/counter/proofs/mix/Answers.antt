-- `counter::mix`: the bytes before place i are xored.
use mathlib.Core.Path.{sym, ap, ◌∙◌}
use mathlib.Core.List.{List}
use Prim.Native.Nat.{ℕ}
use native.Mathlib.Omega.{arith}
use lib.Bits.{bit_xor, xor_comm}
use lib.ListN.{get_or}
use Rattle.counter.specs.Standard.{◌⊕◌}
use Rattle.bits.proofs.Filling.{written_more, written_here, written_all}
use Rattle.counter.proofs.Strings.{length-⊕, get_or_⊕}
use Rattle.counter.proofs.mix.Goals as goal

pub loop-i-preserved : goal.loop-i-preserved
loop-i-preserved c =
    let l = c.loop-i in
    let x : List ℕ = c.args.input.now in
    let y : List ℕ = c.args.output.now in
    let here = written_here (x ⊕ y) y l.output l.i (length-⊕ x y c.requires) (omega arith) l.invariant in
    written_more (x ⊕ y) y l.output l.i _ (length-⊕ x y c.requires) (omega arith) l.invariant
    (ap (λ (b : ℕ). bit_xor b (get_or x l.i 0)) here ∙ xor_comm (get_or y l.i 0) (get_or x l.i 0) ∙ sym (get_or_⊕ x y l.i c.requires))

pub returns : goal.returns
returns c =
    let l = c.loop-i in
    let x : List ℕ = c.args.input.now in
    let y : List ℕ = c.args.output.now in
    written_all (x ⊕ y) y l.output l.i (length-⊕ x y c.requires) (omega arith) l.invariant
