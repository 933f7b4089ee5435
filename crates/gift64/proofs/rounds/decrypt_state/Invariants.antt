-- `gift64::rounds::decrypt_state`: the rounds from 2 i on are undone.
use mathlib.Core.Path.{◌≡◌}
use Prim.Native.Nat.{◌-◌, ◌*◌, ◌≤◌}
use Rattle.published.specs.Gift64.{unrounds64}
use Rattle.primitives.specs.Packed.{block_of64, Words}
use Rattle.gift64.specs.Inner.{pairs_in}
use Rattle.gift64.proofs.rounds.decrypt_state.Given as goal

abbrev pub invariant-loop-i : goal.invariant-loop-i
invariant-loop-i l = (l.i ≤ 14) × Words l.state × (block_of64 l.state ≡ unrounds64 (pairs_in (28 - 2 * l.i) (2 * l.i) l.words) (2 * l.i) (block_of64 l.initial.state))

abbrev pub decreases-loop-i : goal.decreases-loop-i
decreases-loop-i l = l.i
