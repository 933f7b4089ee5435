-- `bench::take` answers as said: its number first, and if that is 0 the bytes written and the lane idle.
use mathlib.Core.Path.{refl, ap, ◌∙◌}
use Rattle.bench_orders.specs.Orders.{lane_count}
use Rattle.bench_orders.proofs.Passing.{not_done}
use Rattle.bench.specs.Calls.{put}
use Rattle.bench.proofs.Answered.{sees, take-refused, take_lane, take_done}
use Rattle.bench.proofs.take.Goals as goal

pub returns-in-Err : goal.returns-in-Err
returns-in-Err c =
    let a = c.args in
    take-refused a.b a.lane a.owner (sees a.b a.lane a.owner c.sound.ensures c.seen-seen.ensures) a.out.now c.in-Err.ensures (not_done c.in-Err.refusal)

pub bounds-b-i : goal.bounds-b-i
unfolding lane_count
bounds-b-i c =
    let a = c.args in
    take_lane a.b a.lane a.owner (sees a.b a.lane a.owner c.sound.ensures c.seen-seen.ensures) a.out.now c.in_default.ensures refl

pub put-bench-requires : goal.put-bench-requires
put-bench-requires c =
    let a = c.args in
    take_lane a.b a.lane a.owner (sees a.b a.lane a.owner c.sound.ensures c.seen-seen.ensures) a.out.now c.in_default.ensures refl

pub returns : goal.returns
returns c =
    let a = c.args in
    take_done a.b a.lane a.owner (sees a.b a.lane a.owner c.sound.ensures c.seen-seen.ensures) a.out.now c.in_default.ensures refl (c.put-bench.ensures ∙ ap (put a.b a.lane) c.idle_lane.ensures)
    c.yielded.ensures
