-- `plain::write_block`: the last i bytes are there.
use Prim.Native.Nat.{◌-◌, ◌≤◌}
use lib.ListN.{length}
use Rattle.plain.specs.Inner.{state_of}
use Rattle.plain.proofs.Bytes.{Written}
use Rattle.plain.proofs.write_block.Given as goal

abbrev pub invariant-loop-i : goal.invariant-loop-i
invariant-loop-i l = (l.i ≤ length l.initial.block) × Written (state_of l.s) l.i l.initial.block l.block

abbrev pub decreases-loop-i : goal.decreases-loop-i
decreases-loop-i l = length l.initial.block - l.i
