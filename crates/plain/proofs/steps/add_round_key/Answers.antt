-- `plain::steps::add_round_key`: the nibbles below i have their bits of U and V.
use mathlib.Core.Path.{◌≡◌, refl}
use mathlib.Core.Bool.{Bool}
use mathlib.Core.List.{List}
use Prim.Native.Nat.{ℕ, ◌+◌, ◌*◌}
use native.Mathlib.Omega.{arith}
use lib.ListN.{length}
use Rattle.bits.specs.Digit.{bit, ◌⊕◌}
use Rattle.bits.proofs.Bits.{one_lt}
use Rattle.published.specs.Rounds.{key_bit}
use Rattle.plain.specs.Inner.{one_at, pair}
use Rattle.plain.proofs.Nibbles.{again, same_length}
use Rattle.plain.proofs.Flips.{Flipped, none_flipped, then_flipped, as_flipped}
use Rattle.plain.proofs.Adding.{below, none_below, all_below, key_next}
use Rattle.plain.proofs.steps.add_round_key.Goals as goal

-- the bits before nibble i, and the first of the two in it
abbrev halfway : (j u v i b : ℕ) → ℕ → Bool
halfway j u v i b q = below (key_bit j (pair u v)) i q ⊕ one_at (4 * i + j + 1) b q

pub loop-i-init : goal.loop-i-init
loop-i-init c =
    let a = c.args in
    (omega arith, none_flipped a.s.now _ c.requires.0.small (λ q h. none_below (key_bit a.j (pair a.u a.v)) q))

pub xor_bit-requires : goal.xor_bit-requires
xor_bit-requires c = let l = c.loop-i in record { nibbles = again c.args.s.now _ l.invariant.1 c.requires.0; q_bound = omega (arith, same_length c.args.s.now _ l.invariant.1); b_bound = rw c.bit.ensures (one_lt (bit c.args.u l.i)) }

pub xor_bit-requires-in-loop-i : goal.xor_bit-requires-in-loop-i
xor_bit-requires-in-loop-i c =
    let a = c.args in
    let l = c.loop-i in
    let once : Flipped a.s.now (halfway a.j a.u a.v l.i c.bit.result) c.xor_bit.new.s =
    then_flipped a.s.now (below (key_bit a.j (pair a.u a.v)) l.i) _ _ l.invariant.1 c.xor_bit.ensures (λ q h. refl) in
    record {
      nibbles = again a.s.now _ once c.requires.0;
      q_bound = omega (arith, same_length a.s.now _ once);
      b_bound = rw c.bit-in-loop-i.ensures (one_lt (bit a.v l.i));
    }

pub loop-i-preserved : goal.loop-i-preserved
loop-i-preserved c =
    let a = c.args in
    let l = c.loop-i in
    let once : Flipped a.s.now (halfway a.j a.u a.v l.i c.bit.result) c.xor_bit.new.s =
    then_flipped a.s.now (below (key_bit a.j (pair a.u a.v)) l.i) _ _ l.invariant.1 c.xor_bit.ensures (λ q h. refl) in (
      omega arith,
      then_flipped a.s.now (halfway a.j a.u a.v l.i c.bit.result) _ _ once c.xor_bit-in-loop-i.ensures
          (λ q h. key_next a.j c.requires.1 (pair a.u a.v) l.i c.bit.result c.bit-in-loop-i.result c.bit.ensures c.bit-in-loop-i.ensures q),
    )

pub returns : goal.returns
returns c =
    let l = c.loop-i in
    let s : List ℕ = c.args.s.now in
    let all : l.i ≡ length s = omega arith in
    as_flipped s _ _ l.invariant.1 (λ q h. rw all (all_below (key_bit c.args.j (pair c.args.u c.args.v)) (length s) q h))

pub shape_of-s : goal.shape_of-s
shape_of-s c = same_length c.args.s.now _ c.loop-i.invariant.1
