-- `eight::put`: the blocks of the lanes before n are written, one after the other.
use mathlib.Core.Path.{◌≡◌}
use Prim.Native.Nat.{◌*◌}
use lib.ListN.{length, take}
use Rattle.published.specs.Blocks.{joined}
use Rattle.published.specs.Seen.{write_in}
use Rattle.primitives.specs.Packed.{block_of}
use Rattle.eight.specs.Inner.{state_at}
use Rattle.eight.proofs.put.Given as goal

abbrev pub invariant-loop-n : goal.invariant-loop-n
invariant-loop-n l =
    (length l.a ≡ 4) × (length l.b ≡ 4) × (length l.c ≡ 4) × (length l.d ≡ 4) × (length l.output ≡ 64) × (take (16 * l.n) l.output ≡ joined l.n (λ k. write_in 1 (block_of (state_at l.a l.b l.c l.d k))))
