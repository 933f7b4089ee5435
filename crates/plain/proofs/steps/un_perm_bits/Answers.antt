-- `plain::steps::un_perm_bits`: the bits below i have come back.
use mathlib.Core.Path.{◌≡◌, sym, ap, ◌∙◌}
use mathlib.Core.List.{List}
use Prim.Native.Nat.{ℕ, ◌*◌}
use native.Mathlib.Omega.{arith}
use lib.ListN.{length, take}
use Rattle.bits.specs.Digit.{number, one, bit, of_bits}
use Rattle.bits.proofs.Bits.{one_lt}
use Rattle.published.specs.Rounds.{P}
use Rattle.published.specs.Inner.{un_perm_bits}
use Rattle.plain.specs.Inner.{state_of, nibbles_of}
use Rattle.plain.proofs.Nibbles.{length-nibbles_of, take-nibbles_of, nibbles_32, width_of}
use Rattle.plain.proofs.Moving.{zeros, unmoved_next}
use Rattle.plain.proofs.steps.un_perm_bits.Goals as goal

pub loop-i-init : goal.loop-i-init
unfolding of_bits number
loop-i-init c = (omega arith, zeros)

pub state_bit-requires : goal.state_bit-requires
state_bit-requires c =
    (c.requires, rw c.p.ensures ((width_of c.args.s.now c.requires).P_lt c.loop-i.i (omega arith)))

pub xor_bit-requires : goal.xor_bit-requires
xor_bit-requires c =
    let long : 32 ≡ length c.loop-i.moved = sym (ap length c.loop-i.invariant.1 ∙ length-nibbles_of 32 _) in
    record { nibbles = nibbles_32 _ c.loop-i.invariant.1; q_bound = omega (arith, long, c.requires.most); b_bound = rw c.state_bit.ensures (one_lt (bit (state_of c.args.s.now) c.p.result)) }

pub loop-i-preserved : goal.loop-i-preserved
loop-i-preserved c =
    let s : List ℕ = c.args.s.now in (
      omega arith,
      unmoved_next (4 * length s) (width_of s c.requires) (omega (arith, c.requires.most)) (state_of s) c.loop-i.i c.state_bit.result (omega arith) c.loop-i.invariant.1
          (c.state_bit.ensures ∙ ap (λ (q : ℕ). one (bit (state_of s) q)) c.p.ensures) c.xor_bit.ensures,
    )

pub returns : goal.returns
unfolding un_perm_bits
returns c =
    let s : List ℕ = c.args.s.now in
    let all : c.loop-i.i ≡ 4 * length s = omega arith in
    c.copy_from_slice.ensures.after
    ∙ ap (take (length s)) (c.loop-i.invariant.1 ∙ ap (λ (i : ℕ). nibbles_of 32 (of_bits i (λ k. bit (state_of s) (P (4 * length s) k)))) all)
    ∙ take-nibbles_of (length s) 32 _ c.requires.most

pub slice_bounds-xor_bit-end : goal.slice_bounds-xor_bit-end
slice_bounds-xor_bit-end c = sym (ap length c.loop-i.invariant.1 ∙ length-nibbles_of 32 _)

pub p-requires : goal.p-requires
p-requires c = (omega arith, omega (arith, c.requires.most))
