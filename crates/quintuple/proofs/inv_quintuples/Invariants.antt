-- `quintuple::inv_quintuples`: the quintuples from the one that is reached on are undone.
use mathlib.Core.Path.{◌≡◌}
use Prim.Native.Nat.{ℕ, ◌+◌, ◌*◌}
use Rattle.quintuple.specs.Quintuple.{unseveral}
use Rattle.quintuple.proofs.inv_quintuples.Given as goal

abbrev pub invariant-loop-k : goal.invariant-loop-k
invariant-loop-k l = (m : ℕ) → l.k + m ≡ l.n → l.state ≡ unseveral l.rkey m (l.from + 5 * l.k) l.initial.state
