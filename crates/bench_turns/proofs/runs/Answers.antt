-- `bench_turns::runs` tells whether a lane runs; past the last lane there is none, and the list's own default is idle.
use Prim.Native.Nat.{◌≤◌}
use native.Mathlib.Omega.{arith}
use lib.ListN.{length, get_or-eq_default}
use Rattle.bench_turns.specs.Turning.{runs}
use Rattle.bench_turns.proofs.runs.Goals as goal

pub returns-in-None : goal.returns-in-None
unfolding runs
returns-in-None c =
    let past : length c.args.lanes.now ≤ c.args.i = omega (arith, c.in-None.ensures.lookup) in
    rw get_or-eq_default
