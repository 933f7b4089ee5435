-- `counter::Stream::key_blocks_by`: the blocks before place a are written.
use mathlib.Core.Path.{◌≡◌}
use Prim.Native.Nat.{◌-◌, ◌/◌, ◌%◌, ◌≤◌}
use lib.ListN.{length, take}
use Rattle.gift128.specs.Calls.{encrypted_by}
use Rattle.counter.specs.Standard.{key_blocks}
use Rattle.counter.proofs.Stream.key_blocks_by.Given as goal

abbrev pub invariant-loop-a : goal.invariant-loop-a
invariant-loop-a l = (l.a % 16 ≡ 0) × (l.a ≤ length l.initial.output) × (take l.a l.output ≡ key_blocks (encrypted_by l.self.words) l.self.nonce l.self.counter (l.a / 16))

abbrev pub decreases-loop-a : goal.decreases-loop-a
decreases-loop-a l = length l.initial.output - l.a
