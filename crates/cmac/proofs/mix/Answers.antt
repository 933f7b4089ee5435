-- `cmac::mix`: the bytes before place i are xored.
use borrow.Author.Rules.{rules}
use mathlib.Core.Path.{◌≡◌, sym, ap, ◌∙◌}
use mathlib.Core.List.{List}
use Prim.Native.Nat.{ℕ}
use native.Mathlib.Omega.{arith}
use lib.Bits.{bit_xor}
use lib.ListN.{length, get_or}
use Rattle.cmac_parts.specs.Standard.{◌⊕◌}
use Rattle.cmac_parts.proofs.Xored.{length-⊕, get_or_⊕}
use Rattle.bits.proofs.Filling.{written_more, written_here, written_all}
use Rattle.cmac.proofs.mix.Goals as goal

pub loop-i-preserved : goal.loop-i-preserved
loop-i-preserved c =
    let l = c.loop-i in
    let x : List ℕ = c.args.block.now in
    let y : List ℕ = c.args.other.now in
    let sixteen : length x ≡ 16 = search rules in
    let even : length x ≡ length y = omega arith in
    let here = written_here (x ⊕ y) x l.block l.i (length-⊕ x y even) (omega arith) l.invariant in
    written_more (x ⊕ y) x l.block l.i _ (length-⊕ x y even) (omega arith) l.invariant (ap (λ (b : ℕ). bit_xor b (get_or y l.i 0)) here ∙ sym (get_or_⊕ x y l.i even))

pub returns : goal.returns
returns c =
    let l = c.loop-i in
    let x : List ℕ = c.args.block.now in
    let y : List ℕ = c.args.other.now in
    let sixteen : length x ≡ 16 = search rules in
    let even : length x ≡ length y = omega arith in
    written_all (x ⊕ y) x l.block l.i (length-⊕ x y even) (omega arith) l.invariant
