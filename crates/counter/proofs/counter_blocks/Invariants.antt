-- `counter::counter_blocks`: the first k counter blocks are written.
use mathlib.Core.Path.{◌≡◌}
use Prim.Native.Nat.{◌*◌}
use lib.ListN.{take}
use Rattle.counter.specs.Standard.{key_blocks}
use Rattle.counter.proofs.counter_blocks.Given as goal

abbrev pub invariant-loop-k : goal.invariant-loop-k
invariant-loop-k l = take (16 * l.k) l.blocks ≡ key_blocks (λ t. t) l.nonce l.counter l.k
