-- `plain::read_block`: the nibbles of the last i bytes are there.
use native.Mathlib.Omega.{arith}
use lib.ListN.{length-set}
use Rattle.published.specs.Bytes.{from_bytes}
use Rattle.plain.proofs.Bytes.{read_none, read_next, read_all}
use Rattle.plain.proofs.read_block.Goals as goal

pub loop-i-init : goal.loop-i-init
loop-i-init c = (omega arith, read_none _ _)

pub loop-i-preserved : goal.loop-i-preserved
loop-i-preserved c =
    let l = c.loop-i in (
      omega arith,
      read_next c.args.block.now c.args.s.now l.s l.i (λ i. (c.shared_slice_known-1.given i).fits) c.requires (omega arith) l.invariant.1,
    )

pub returns : goal.returns
returns c =
    let l = c.loop-i in
    read_all (from_bytes c.args.block.now) l.i c.args.s.now l.s (omega arith) l.invariant.1

pub bounds-s-i : goal.bounds-s-i
bounds-s-i c = omega (arith, c.loop-i.invariant.1.same)

pub bounds-s-i-in-loop-i : goal.bounds-s-i-in-loop-i
bounds-s-i-in-loop-i c = simp length-set (omega (arith, c.loop-i.invariant.1.same))

pub shape_of-s : goal.shape_of-s
shape_of-s c = omega (arith, c.loop-i.invariant.1.same)
