-- `turning::pass`: the words below place 8 i are right.
use Prim.Native.Nat.{◌*◌, ◌≤◌}
use Rattle.turning.specs.Inner.{from_in, to_in}
use Rattle.turning.proofs.Passes.{Up, PassedAt}
use Rattle.turning.proofs.pass.Given as goal

abbrev pub invariant-loop-i : goal.invariant-loop-i
invariant-loop-i g l = (l.i ≤ 16) × Up (PassedAt (from_in g.row.STEP) (to_in g.row.STEP) l.x) (8 * l.i) l.y
