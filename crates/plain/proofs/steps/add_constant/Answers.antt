-- `plain::steps::add_constant`: after the highest bit, the nibbles below i have their bits of the constant.
use mathlib.Core.Path.{◌≡◌, ◌∙◌}
use mathlib.Core.List.{List}
use Prim.Native.Nat.{ℕ, ◌-◌, ◌*◌}
use native.Mathlib.Omega.{arith}
use lib.Dec.{lit<}
use lib.ListN.{length}
use Rattle.bits.specs.Digit.{bit}
use Rattle.bits.proofs.Bits.{one_lt}
use Rattle.plain.specs.Inner.{Nibbles, one_at}
use Rattle.plain.proofs.Nibbles.{again, same_length}
use Rattle.plain.proofs.Flips.{none_flipped, then_flipped}
use Rattle.plain.proofs.Adding.{below, none_below, constant_at, constant_next, constant_whole}
use Rattle.plain.proofs.steps.add_constant.Goals as goal

pub xor_bit-requires : goal.xor_bit-requires
xor_bit-requires c = record { nibbles = c.requires; q_bound = omega arith; b_bound = lit< tt }

pub loop-i-init : goal.loop-i-init
loop-i-init c =
    -- after the highest bit
    let flipped : Nibbles c.xor_bit.new.s = again c.args.s.now _ c.xor_bit.ensures c.requires in
    (omega arith, none_flipped c.xor_bit.new.s _ flipped.small (λ q h. none_below (constant_at c.args.c) q))

pub xor_bit-requires-in-loop-i : goal.xor_bit-requires-in-loop-i
xor_bit-requires-in-loop-i c =
    let l = c.loop-i in
    let flipped : Nibbles c.xor_bit.new.s = again c.args.s.now _ c.xor_bit.ensures c.requires in
    let ok = again c.xor_bit.new.s _ l.invariant.1 flipped in
    record { nibbles = ok; q_bound = omega (arith, ok.least); b_bound = rw c.bit.ensures (one_lt (bit c.args.c l.i)) }

pub loop-i-preserved : goal.loop-i-preserved
loop-i-preserved c =
    let l = c.loop-i in (
      omega arith,
      then_flipped c.xor_bit.new.s _ _ _ l.invariant.1 c.xor_bit-in-loop-i.ensures
          (λ q h. constant_next c.args.c l.i c.bit.result c.bit.ensures q),
    )

pub returns : goal.returns
returns c =
    let l = c.loop-i in
    let s : List ℕ = c.args.s.now in
    let all : l.i ≡ 6 = omega arith in
    then_flipped s (one_at (4 * length s - 1) 1) (below (constant_at c.args.c) 6) _ c.xor_bit.ensures (rw all at l.invariant.1)
    (λ q h. constant_whole (4 * length s) c.args.c q)

pub shape_of-s : goal.shape_of-s
shape_of-s c = same_length c.xor_bit.new.s _ c.loop-i.invariant.1 ∙ same_length c.args.s.now _ c.xor_bit.ensures
