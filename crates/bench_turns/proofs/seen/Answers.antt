-- `bench_turns::seen` tells of the lane that is named; past the last lane there is none, and the list's own default is idle.
use Prim.Native.Nat.{◌≤◌}
use native.Mathlib.Omega.{arith}
use lib.ListN.{length, get_or-eq_default}
use Rattle.lane.specs.Record.{admits}
use Rattle.bench_turns.proofs.seen.Goals as goal

pub returns-in-None : goal.returns-in-None
unfolding admits
returns-in-None c =
    let past : length c.args.lanes.now ≤ c.args.lane = omega (arith, c.in-None.ensures.lookup) in
    rw get_or-eq_default
