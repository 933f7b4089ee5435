-- `quintuple::quintuples`: what is left of the quintuples, done to the state that is reached, is all of them done to the first.
use mathlib.Core.Path.{◌≡◌}
use Prim.Native.Nat.{ℕ, ◌+◌, ◌*◌}
use Rattle.quintuple.specs.Quintuple.{several}
use Rattle.quintuple.proofs.quintuples.Given as goal

abbrev pub invariant-loop-k : goal.invariant-loop-k
invariant-loop-k l = (m : ℕ) → l.k + m ≡ l.n → several l.rkey m (l.from + 5 * l.k) l.state ≡ several l.rkey l.n l.from l.initial.state
