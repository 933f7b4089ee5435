-- `eight::decrypt_lanes`: in every lane of every four the quintuples from the one that was reached are undone.
use Prim.Native.Nat.{◌*◌}
use Rattle.eight.specs.Inner.{EveryBy}
use Rattle.eight.proofs.Rounds.{Undone}
use Rattle.eight.proofs.decrypt_lanes.Given as goal

abbrev pub invariant-loop-n : goal.invariant-loop-n
invariant-loop-n l = EveryBy (Undone l.rkey (5 * l.n)) l.initial.s l.s
