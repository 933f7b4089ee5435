-- `gift64::rounds::encrypt_state`: the rounds from 2 i on of the block that the words stand for give what all of them give.
use mathlib.Core.Path.{◌≡◌}
use Prim.Native.Nat.{◌-◌, ◌*◌, ◌≤◌}
use Rattle.published.specs.Gift64.{rounds64}
use Rattle.primitives.specs.Packed.{block_of64}
use Rattle.gift64.specs.Inner.{pairs_in}
use Rattle.gift64.proofs.rounds.encrypt_state.Given as goal

abbrev pub invariant-loop-i : goal.invariant-loop-i
invariant-loop-i l = (l.i ≤ 14) × (rounds64 (pairs_in (28 - 2 * l.i) (2 * l.i) l.words) (2 * l.i) (block_of64 l.state) ≡ rounds64 (pairs_in 28 0 l.words) 0 (block_of64 l.initial.state))

abbrev pub decreases-loop-i : goal.decreases-loop-i
decreases-loop-i l = 14 - l.i
