-- `eight::encrypt_lanes`: what is left of the quintuples, done to the lanes that are reached, is all of them done to the first.
use Prim.Native.Nat.{◌*◌}
use Rattle.eight.specs.Inner.{EveryBy}
use Rattle.eight.proofs.Rounds.{Left}
use Rattle.eight.proofs.encrypt_lanes.Given as goal

abbrev pub invariant-loop-n : goal.invariant-loop-n
invariant-loop-n l = EveryBy (Left l.rkey (5 * l.n)) l.initial.s l.s
