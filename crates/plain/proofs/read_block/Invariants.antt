-- `plain::read_block`: the nibbles of the last i bytes are there.
use Prim.Native.Nat.{◌-◌, ◌≤◌}
use lib.ListN.{length}
use Rattle.published.specs.Bytes.{from_bytes}
use Rattle.plain.proofs.Bytes.{Read}
use Rattle.plain.proofs.read_block.Given as goal

abbrev pub invariant-loop-i : goal.invariant-loop-i
invariant-loop-i l = (l.i ≤ length l.block) × Read (from_bytes l.block) l.i l.initial.s l.s

abbrev pub decreases-loop-i : goal.decreases-loop-i
decreases-loop-i l = length l.block - l.i
