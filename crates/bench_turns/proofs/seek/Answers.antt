-- `bench_turns::seek` finds the first running lane in cyclic order: the lanes that are left to look at tell it, as none passed runs.
use mathlib.Core.Path.{◌≡◌, sym, ◌∙◌}
use mathlib.Core.Bool.{true}
use Prim.Native.Nat.{◌-◌, ◌+◌}
use native.Mathlib.Omega.{arith}
use Rattle.bench_orders.specs.Orders.{lane_count}
use Rattle.bench_turns.specs.Turning.{seek, runs}
use Rattle.bench_turns.proofs.Seeking.{runs_inside, seek_here, seek_on, seek-over}
use Rattle.bench_turns.proofs.seek.Goals as goal

pub returns-then-runs : goal.returns-then-runs
unfolding lane_count
returns-then-runs c =
    let ls = c.args.lanes.now in
    let p = c.loop-passed in
    let here : runs ls p.i ≡ true = sym c.runs.ensures ∙ c.if-runs.true in
    (sym (seek_here (lane_count - p._passed) ls p.i (omega arith) here) ∙ p.invariant, runs_inside ls p.i here)

pub loop-passed-preserved : goal.loop-passed-preserved
unfolding lane_count
loop-passed-preserved c =
    let ls = c.args.lanes.now in
    let p = c.loop-passed in
    let one_less : lane_count - (p._passed + 1) ≡ lane_count - p._passed - 1 = omega arith in
    (λ i. seek (one_less i) ls (c.after-i.ensures i)) ∙ sym (seek_on (lane_count - p._passed) ls p.i (omega arith) (sym c.runs.ensures ∙ c.if-runs.false)) ∙ p.invariant

pub returns : goal.returns
unfolding lane_count
returns c = let p = c.loop-passed in sym p.invariant ∙ seek-over (lane_count - p._passed) c.args.lanes.now p.i (omega arith)
