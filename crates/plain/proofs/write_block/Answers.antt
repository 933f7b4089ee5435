-- `plain::write_block`: the last i bytes are there.
use Prim.Native.Nat.{◌+◌, ◌*◌}
use native.Mathlib.Omega.{arith}
use Rattle.plain.specs.Inner.{state_of}
use Rattle.plain.proofs.Bytes.{written_none, written_next, written_all}
use Rattle.plain.proofs.write_block.Goals as goal

pub loop-i-init : goal.loop-i-init
loop-i-init c = (omega arith, written_none _ _)

pub loop-i-preserved : goal.loop-i-preserved
loop-i-preserved c =
    let l = c.loop-i in
    (omega arith, written_next c.args.s.now c.args.block.now l.block l.i c.requires.0.small c.requires.1 (omega arith) l.invariant.1)

pub returns : goal.returns
returns c =
    let l = c.loop-i in
    written_all (state_of c.args.s.now) l.i c.args.block.now l.block (omega arith) l.invariant.1

pub overflow_sub-at : goal.overflow_sub-at
overflow_sub-at c = omega (arith, c.loop-i.invariant.1.same)

pub overflow_sub-at-in-loop-i : goal.overflow_sub-at-in-loop-i
overflow_sub-at-in-loop-i c = omega (arith, c.loop-i.invariant.1.same)

pub overflow_mul-block-in-loop-i : goal.overflow_mul-block-in-loop-i
overflow_mul-block-in-loop-i c = omega (arith, c.requires.0.small (2 * c.loop-i.i + 1))

pub overflow_add-block-in-loop-i : goal.overflow_add-block-in-loop-i
overflow_add-block-in-loop-i c = let small = c.requires.0.small in let i = c.loop-i.i in omega (arith, small (2 * i + 1), small (2 * i))

pub bounds-block-at : goal.bounds-block-at
bounds-block-at c = omega (arith, c.loop-i.invariant.1.same)

pub shape_of-block : goal.shape_of-block
shape_of-block c = omega (arith, c.loop-i.invariant.1.same)
